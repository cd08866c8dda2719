pub mod Spelling
pub mod Reading
pub mod Answers
pub mod Units
pub mod Shifts
pub mod Dispatches
pub mod TakingBack
pub mod Laws
