pub mod Prices
pub mod Sums
pub mod Purchases
pub mod Refunds
pub mod Closing
pub mod Laws
