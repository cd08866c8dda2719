pub mod Part
pub mod Arrivals
pub mod Answers
pub mod Sending
pub mod Host
pub mod Calls
pub mod Pools
