pub mod Fits
pub mod Rows
pub mod Truth
pub mod words
