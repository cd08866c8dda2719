pub mod Chains
pub mod Accounts
pub mod Trust
