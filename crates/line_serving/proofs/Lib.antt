pub mod Lemmas
mod Flowing
mod Gathering
mod PastLimits
mod Streams
