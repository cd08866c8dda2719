pub mod Lemmas
pub mod FirstLine
pub mod Decimals
pub mod FirstWord
pub mod Cut
pub mod ReadBack
