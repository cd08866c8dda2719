pub mod Lines
pub mod Numbers
pub mod Step
pub mod Words
pub mod Meaning
