pub mod Lemmas
pub mod Exact
