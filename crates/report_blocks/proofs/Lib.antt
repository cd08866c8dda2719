mod Apart
mod DrainLines
mod Reading
pub mod Listed
mod Keeping
pub mod Telling
