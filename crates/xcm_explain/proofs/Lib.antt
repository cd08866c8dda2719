mod Steps
mod Headline
mod Walks
mod Decoded
mod Agreeing
