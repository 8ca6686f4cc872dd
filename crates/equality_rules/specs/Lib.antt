pub mod Equality
pub mod Linear
pub mod words
pub mod Rewrite
