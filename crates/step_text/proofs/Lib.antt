pub mod Balances
pub mod ChannelLines
pub mod Checking
pub mod Queued
