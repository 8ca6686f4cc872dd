pub mod NameLemmas
pub mod Exactness
pub mod ScriptLaws
pub mod TextLaws
