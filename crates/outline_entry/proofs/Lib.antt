pub mod Noted
pub mod Walks
pub mod Begun
pub mod Numbered
pub mod Room
