pub mod EntryLoop
pub mod CodeLoop
pub mod SectionLoop
