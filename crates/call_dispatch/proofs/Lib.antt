pub mod Lemmas
mod Batches
