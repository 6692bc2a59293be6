pub mod Steps
pub mod Rows
pub mod Pairs
pub mod Prefixes
pub mod Fronts
pub mod Runs
pub mod Contained
