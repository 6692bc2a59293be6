pub mod Indexes
pub mod Facts
pub mod Aging
pub mod Members
pub mod Conflicting
pub mod Using
pub mod Counting
pub mod Bound
