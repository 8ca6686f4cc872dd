pub mod HeadLemmas
pub mod NameLemmas
pub mod PartLemmas
pub mod TableLoop
