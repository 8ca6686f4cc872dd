pub mod StateLemmas
pub mod WalkLemmas
pub mod ModuleLemmas
pub mod DerivationLaws
pub mod RunLemmas
