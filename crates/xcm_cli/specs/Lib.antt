pub mod Words
pub mod Promise
pub mod Report
pub mod Session
pub mod Serving
pub mod Told
pub mod Laws
pub mod Pieces
