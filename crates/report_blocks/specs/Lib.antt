pub mod Asked
pub mod Reads
pub mod Blocks
pub mod Serving
pub mod Tables
pub mod NetCode
