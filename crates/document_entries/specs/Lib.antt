pub mod Texts
pub mod Answers
pub mod Forms
pub mod LocationTexts
pub mod Entries
pub mod Alternatives
