pub mod Fields
pub mod words
