pub mod Playing
pub mod Along
