pub mod Ages
pub mod BlockSets
pub mod Laws
