pub mod RowAccounts
pub mod Calls
pub mod AccountLaws
pub mod Nothing
pub mod Moves
pub mod Laws
