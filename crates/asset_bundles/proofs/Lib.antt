pub mod Lemmas
pub mod Finding
pub mod Listing
pub mod Minting
pub mod Parts
pub mod Giving
pub mod Burning
pub mod BookedAll
pub mod SumFacts
pub mod Naming
pub mod Conditions
pub mod PieceFacts
mod Growing
mod Holding
mod Mapped
mod SumRows
mod Cutting
mod Places
mod Searching
mod Claiming
mod Conserving
mod Settling
mod Whole
