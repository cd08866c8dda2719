pub mod Around
pub mod Filtering
pub mod Forwarding
pub mod Inside
pub mod NamedLists
pub mod Rising
