pub mod Rests
pub mod Coins
