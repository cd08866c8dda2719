pub mod Spelling
pub mod Reading
pub mod Texts
pub mod TextFaults
