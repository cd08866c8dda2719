-- Lemmas: what proofs cite.
pub mod Accepted
pub mod Calls
pub mod Checks
pub mod Ending
pub mod Posts
pub mod Raising
pub mod Runs
pub mod Safety
pub mod Shipping
pub mod Stopping
pub mod Sums
pub mod Turns
