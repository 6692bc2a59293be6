pub mod Lists
pub mod Made
pub mod Rows
pub mod RowLaws
pub mod Matching
pub mod Tells
