pub mod Names
pub mod Parts
pub mod Grammar
pub mod Reading
pub mod Spelling
pub mod words
