pub mod Configuration
pub mod words
pub mod Seen
pub mod Readers
pub mod Numeric
pub mod Memory
pub mod Control
pub mod Step
