pub mod WellFormed
pub mod Gathering
pub mod Listed
pub mod Known
pub mod Stages
