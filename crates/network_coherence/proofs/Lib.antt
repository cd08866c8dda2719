pub mod Listing
pub mod Splits
pub mod Normals
pub mod Totals
pub mod Ends
pub mod Coins
pub mod Shares
