pub mod Counts
pub mod Tests
pub mod Numbers
