pub mod Kinds
pub mod Graph
pub mod Rounds
pub mod Settled
pub mod Answers
