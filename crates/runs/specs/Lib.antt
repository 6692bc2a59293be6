pub mod Words
pub mod Tasks
pub mod OnLru
pub mod Runs
