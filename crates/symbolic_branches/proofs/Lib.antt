pub mod Leavings
pub mod Labelled
pub mod Takings
pub mod Tabling
