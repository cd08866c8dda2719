pub mod Lemmas
pub mod Advance
pub mod Marks
pub mod Headline
pub mod Numbers
pub mod Pieces
mod FirstWorlds
mod Telling
