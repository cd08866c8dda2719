pub mod Lemmas
pub mod Firsts
pub mod Paying
pub mod Goods
