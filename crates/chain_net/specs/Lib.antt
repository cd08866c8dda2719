pub mod Order
pub mod Chains
pub mod Links
pub mod Nets
pub mod Sound
pub mod Answers
pub mod Passing
pub mod Calls
