pub mod Handled
pub mod Listed
pub mod Listings
pub mod Reports
pub mod Resting
pub mod Unchecked
