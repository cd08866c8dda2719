pub mod Lemmas
pub mod Answers
pub mod Places
