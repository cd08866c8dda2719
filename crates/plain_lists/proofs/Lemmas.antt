-- Lemmas: what proofs cite.
pub mod Firsts
pub mod Facts
pub mod Pushed
