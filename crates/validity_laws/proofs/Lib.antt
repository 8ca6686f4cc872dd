mod Known
mod Instructions
mod Steps
mod Bodies
pub mod Modules
mod Ranges
pub mod Spelled
pub mod MarkLaws
pub mod InvalidLaws
