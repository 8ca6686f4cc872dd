pub mod Bounds
pub mod Told
pub mod Runs
pub mod words
