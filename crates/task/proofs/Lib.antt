pub mod Chains
pub mod Rising
pub mod Noting
pub mod Drafting
pub mod Blocks
