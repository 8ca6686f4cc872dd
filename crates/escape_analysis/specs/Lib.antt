pub mod Exposure
pub mod words
