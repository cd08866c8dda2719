pub mod Acts
pub mod Freedom
pub mod Beside
