pub mod Paid
pub mod Covered
pub mod Barring
pub mod Excess
pub mod Runs
pub mod Stops
pub mod Promises
