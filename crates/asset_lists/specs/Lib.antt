pub mod Units
pub mod UnitLaws
pub mod DerivedOrder
pub mod Listed
pub mod Lists
pub mod Moves
pub mod Stored
