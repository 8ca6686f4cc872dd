pub mod Seen
pub mod words
