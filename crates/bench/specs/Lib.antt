pub mod Faults
pub mod Keeping
pub mod Benches
