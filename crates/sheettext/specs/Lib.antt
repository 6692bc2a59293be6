pub mod Sheets
pub mod Printed
