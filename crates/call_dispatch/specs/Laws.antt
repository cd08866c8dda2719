-- The laws of calls and of the moves of amounts that they ask for: what they are stated by.
pub mod ShiftLaws
