pub mod Noted
pub mod words
