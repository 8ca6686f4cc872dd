pub mod ChangeLemmas
pub mod ExposureLemmas
