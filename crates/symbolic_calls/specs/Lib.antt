pub mod Uses
pub mod words
