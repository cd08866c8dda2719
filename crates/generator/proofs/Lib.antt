mod Going
mod Reading
mod Coherence
