pub mod Using
pub mod InStages
