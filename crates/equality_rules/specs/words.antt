pub mod Becoming
pub mod Sums
