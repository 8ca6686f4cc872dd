pub mod Sealed
pub mod words
