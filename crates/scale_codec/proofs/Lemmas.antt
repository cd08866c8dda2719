-- Lemmas: what proofs cite.
pub mod Compact
pub mod Loops
pub mod NumberLaws
pub mod Powers
pub mod ReadLaws
pub mod Schemes
pub mod Steps
pub mod WriteLoops
