pub mod Policies
pub mod words
