pub mod Reading
pub mod Lexemes
pub mod ReadingLexemes
pub mod FirstNotes
pub mod ReadingNotes
pub mod FirstTests
