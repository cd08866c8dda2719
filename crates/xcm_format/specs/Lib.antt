pub mod Parts
pub mod Programs
pub mod Messages
pub mod Writable
pub mod Reading
