pub mod FileLemmas
pub mod KnownLemmas
