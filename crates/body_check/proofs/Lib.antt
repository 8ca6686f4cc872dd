pub mod SectionLemmas
pub mod OperandLemmas
pub mod ActLemmas
pub mod WalkLemmas
pub mod WalkSteps
pub mod BodyLemmas
pub mod PrefixLemmas
