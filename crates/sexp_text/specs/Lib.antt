pub mod Bytes
pub mod Faults
pub mod Items
pub mod Printing
pub mod Reading
pub mod Spelling
pub mod words
