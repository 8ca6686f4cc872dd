pub mod LemmaLoop
pub mod NoteLoop
pub mod Same
pub mod TextLaws
