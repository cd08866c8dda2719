pub mod Lemmas
pub mod Channels
pub mod Runs
pub mod Worlds
pub mod Admitting
pub mod Matching
pub mod Calm
pub mod Sends
pub mod Drains
pub mod Lost
mod Balances
mod Firsts
mod NetworkFacts
