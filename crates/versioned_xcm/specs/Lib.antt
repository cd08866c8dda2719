pub mod Programs
pub mod Message
pub mod Reading
