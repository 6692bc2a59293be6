pub mod Ledger
pub mod Histories
