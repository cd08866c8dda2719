pub mod Lemmas
pub mod Stillness
pub mod Keeping
