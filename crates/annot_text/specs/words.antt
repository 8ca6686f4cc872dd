pub mod Functions
pub mod Lemmas
pub mod Texts
pub mod Uses
pub mod Wholes
