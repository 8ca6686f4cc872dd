pub mod Typing
pub mod Valid
pub mod faults
