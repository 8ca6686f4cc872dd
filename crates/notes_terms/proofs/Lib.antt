pub mod PartLemmas
pub mod Beginnings
pub mod Claims
pub mod EntryLoop
pub mod StepLemmas
