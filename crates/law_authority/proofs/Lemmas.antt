-- Lemmas: what proofs cite.
pub mod ListLaws
pub mod SpendingLaws
pub mod StepLaws
pub mod WaitingLaws
