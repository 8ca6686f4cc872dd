pub mod Limits
pub mod Entries
pub mod Sizes
pub mod Instances
pub mod Kept
pub mod Walks
