pub mod Lemmas
pub mod Rising
pub mod KeptList
pub mod Naming
