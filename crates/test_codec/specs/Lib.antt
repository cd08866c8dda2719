pub mod Examples
pub mod Books
pub mod Laws
