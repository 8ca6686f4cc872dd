pub mod Parts
pub mod Printed
pub mod Reading
pub mod Shapes
pub mod Spelling
pub mod Words
