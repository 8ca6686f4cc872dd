pub mod Ending
pub mod Gathering
pub mod Places
