pub mod Barriers
pub mod Meaning
