pub mod Rounds
pub mod LoopOfFour
pub mod Runs
