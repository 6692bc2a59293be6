pub mod OwnNotes
pub mod Settles
pub mod Reading
