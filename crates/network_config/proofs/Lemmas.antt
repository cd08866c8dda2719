-- Lemmas: what proofs cite.
pub mod Arranged
pub mod Faultless
pub mod Holdings
pub mod Summed
