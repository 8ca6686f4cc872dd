pub mod Counting
pub mod Itself
pub mod Passings
pub mod Puttings
pub mod StepParts
pub mod Tested
