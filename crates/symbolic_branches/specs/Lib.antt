pub mod Labels
pub mod words
