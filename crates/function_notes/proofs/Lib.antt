mod Walks
pub mod Found
