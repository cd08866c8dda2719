pub mod Texts
pub mod Chains
