pub mod Floors
pub mod Checks
pub mod Moves
