pub mod Lemmas
pub mod Edits
pub mod Standing
pub mod Searching
pub mod Noting
pub mod Booked
