pub mod Blocks
pub mod Recency
pub mod Rows
pub mod Paired
pub mod Prefixes
pub mod Misses
