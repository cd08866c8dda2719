pub mod Lemmas
pub mod TextLaws
pub mod Places
