pub mod Parts
pub mod Guards
pub mod Topmost
