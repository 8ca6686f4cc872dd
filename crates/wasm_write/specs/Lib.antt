pub mod Shortest
pub mod Encoding
pub mod Writable
