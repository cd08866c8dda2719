pub mod Measure
pub mod Everywhere
pub mod Conversions
pub mod Weights
pub mod Indices
pub mod Names
pub mod Texts
