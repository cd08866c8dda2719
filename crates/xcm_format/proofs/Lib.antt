pub mod Lemmas
pub mod Forms
