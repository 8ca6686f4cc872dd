pub mod Faults
pub mod Heaps
pub mod words
