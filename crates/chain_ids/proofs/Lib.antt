pub mod Lemmas
