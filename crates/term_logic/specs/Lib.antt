pub mod Extends
pub mod Formulas
pub mod Leaves
pub mod Linear
pub mod Scopes
pub mod Table
pub mod words
