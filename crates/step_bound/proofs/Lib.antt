pub mod Parts
pub mod Staying
pub mod Falling
pub mod Sums
pub mod Tables
pub mod Answering
pub mod Existing
