pub mod Lines
pub mod Stops
pub mod Blocks
pub mod Explanations
pub mod Laws
