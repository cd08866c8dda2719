-- Lemmas: what proofs cite.
pub mod ListedLaws
