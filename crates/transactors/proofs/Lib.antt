pub mod Rows
pub mod Moving
pub mod Nothing
pub mod Flooring
pub mod Keeping
