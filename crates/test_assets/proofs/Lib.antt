pub mod Apart
pub mod Empty
