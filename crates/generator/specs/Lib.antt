pub mod Draws
pub mod Messages
pub mod Turns
pub mod Results
pub mod Generated
pub mod Network
