pub mod ValidLemmas
pub mod PartsLemmas
pub mod RangeLemmas
pub mod NameLemmas
