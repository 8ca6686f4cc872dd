pub mod Effects
pub mod Ends
pub mod Gathered
