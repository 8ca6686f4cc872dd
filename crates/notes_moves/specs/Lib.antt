pub mod Joined
pub mod words
