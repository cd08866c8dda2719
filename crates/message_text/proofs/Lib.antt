pub mod Lemmas
mod Indents
