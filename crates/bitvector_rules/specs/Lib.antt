pub mod Facts
pub mod Goals
pub mod Machine
pub mod Steps
pub mod Truth
