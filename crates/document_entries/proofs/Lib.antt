pub mod Decimals
pub mod Objects
pub mod Lists
pub mod LocationReading
pub mod BothFields
pub mod Locations
pub mod PalletNames
