pub mod Tables
pub mod Rows
pub mod Answers
pub mod Memory
