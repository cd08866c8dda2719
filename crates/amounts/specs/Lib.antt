pub mod Rows
pub mod Amounts
pub mod Entries
