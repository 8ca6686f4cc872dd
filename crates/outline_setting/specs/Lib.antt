pub mod Coding
pub mod Reasons
pub mod words
