pub mod Lemmata
pub mod StepWalks
pub mod Moving
pub mod Celled
