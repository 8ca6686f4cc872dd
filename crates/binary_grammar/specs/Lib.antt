pub mod Numbers
pub mod Bounds
pub mod Grammar
pub mod CodeGrammar
pub mod ModuleGrammar
pub mod Readings
pub mod Plans
pub mod words
