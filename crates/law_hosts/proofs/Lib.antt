mod Booking
mod Moving
mod Claiming
mod Dispatching
mod Exchanging
mod Sending
mod Trading
mod Accepting
mod Accepted
pub mod Lemmas
