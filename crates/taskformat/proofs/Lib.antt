pub mod Numbers
pub mod Fields
pub mod Fronts
pub mod Points
pub mod Steps
pub mod Gains
pub mod Rereading
pub mod Rewriting
