pub mod Claims
pub mod Forms
pub mod Sizes
pub mod Steps
