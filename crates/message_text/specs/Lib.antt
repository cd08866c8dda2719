pub mod Names
pub mod Lines
pub mod Words
pub mod Fields
pub mod Messages
