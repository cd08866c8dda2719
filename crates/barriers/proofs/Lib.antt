pub mod Purchases
pub mod Wording
