pub mod Views
pub mod Sums
pub mod Calls
pub mod Safety
pub mod Accepted
pub mod Runs
