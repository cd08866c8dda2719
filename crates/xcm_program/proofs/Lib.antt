pub mod Lemmas
pub mod Converting
pub mod Measures
