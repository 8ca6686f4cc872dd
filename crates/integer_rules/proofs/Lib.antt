pub mod FitLaws
pub mod Operations
pub mod Ranges
pub mod RowLaws
pub mod Shapes
pub mod TakenRows
pub mod Values
