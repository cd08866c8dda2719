-- Lemmas: what proofs cite.
pub mod ChainLaws
pub mod TrustLaws
