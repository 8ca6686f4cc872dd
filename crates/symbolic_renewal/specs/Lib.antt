pub mod Renewings
pub mod words
