pub mod Replies
pub mod Calls
pub mod Feeding
pub mod Serving
pub mod Gathering
