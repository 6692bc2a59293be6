pub mod Stepping
pub mod PointBytes
pub mod Fieldwise
pub mod Answering
pub mod Filling
