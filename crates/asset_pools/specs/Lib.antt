pub mod Pools
pub mod Trading
pub mod Exchanges
pub mod Making
pub mod Spending
