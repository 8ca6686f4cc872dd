pub mod First
pub mod Refusals
pub mod States
pub mod Derivations
pub mod Outlines
pub mod Cursors
pub mod Runs
