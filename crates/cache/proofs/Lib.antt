pub mod Sizes
mod Tables
mod Runs
mod Examples
mod Shift
