pub mod Derivations
pub mod words
