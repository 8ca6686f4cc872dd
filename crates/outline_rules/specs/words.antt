-- Statements of laws, and words that they are said in.
pub mod Laws
pub mod Plain
