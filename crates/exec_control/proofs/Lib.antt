pub mod Errors
pub mod Spellings
pub mod Stopped
