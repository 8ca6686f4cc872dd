pub mod Lines
pub mod Loading
pub mod Stages
pub mod Watching
pub mod Logs
pub mod Answers
pub mod words
