-- Lemmas: what proofs cite.
pub mod ExchangeLaws
pub mod Keeping
pub mod Products
pub mod SpendingLaws
pub mod Swaps
