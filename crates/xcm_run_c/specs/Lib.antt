pub mod Buffers
pub mod Trees
pub mod Words
