pub mod FactLemmas
pub mod Instances
pub mod Progress
pub mod StepLemmas
pub mod Steps
pub mod Truth
