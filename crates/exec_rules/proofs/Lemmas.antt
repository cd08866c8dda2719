-- Lemmas: what proofs cite.
pub mod AnswerLaws
pub mod BalanceLaws
pub mod CallLaws
pub mod Footprints
pub mod HoldingLaws
pub mod HostCalls
pub mod KeepingLaws
pub mod Kept
pub mod KeptLaws
pub mod ListingLaws
pub mod ReasonLaws
pub mod Reasons
pub mod RunLaws
pub mod StopLaws
