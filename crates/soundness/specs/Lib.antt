pub mod Flows
pub mod Runs
pub mod Ages
