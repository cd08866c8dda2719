-- Lemmas: what proofs cite.
pub mod FieldLaws
pub mod Slashes
