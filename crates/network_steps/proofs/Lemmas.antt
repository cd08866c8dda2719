-- Lemmas: what proofs cite.
pub mod CallerLaws
pub mod FixedLaws
pub mod StepLaws
pub mod Steps
