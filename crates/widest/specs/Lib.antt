pub mod NextUses
pub mod Laws
