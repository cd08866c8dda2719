pub mod Natives
pub mod Rows
pub mod PartOf
pub mod Opening
