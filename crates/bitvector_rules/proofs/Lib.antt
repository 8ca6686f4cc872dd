pub mod FactLemmas
pub mod FormLemmas
pub mod GoalLemmas
pub mod RuleLaws
pub mod Weights
