-- What is kept beside the notes.
pub mod Kept
