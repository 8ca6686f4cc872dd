pub mod Endings
pub mod Alike
