pub mod Lines
pub mod Reports
pub mod Outcomes
pub mod Accepted
pub mod words
