pub mod Wholes
pub mod Accepted
pub mod Floors
