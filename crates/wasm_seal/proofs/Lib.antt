mod EntryLaws
pub mod PartLaws
pub mod NotesLaws
pub mod ModuleLaws
pub mod SplitLaws
pub mod DecideLaws
mod DigitLaws
mod LengthLaws
