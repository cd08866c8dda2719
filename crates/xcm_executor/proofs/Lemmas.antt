-- Lemmas: what proofs cite.
pub mod Running
