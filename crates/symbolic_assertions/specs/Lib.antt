pub mod Wanting
pub mod words
