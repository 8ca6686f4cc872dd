pub mod Matching
pub mod Pool
pub mod Instantiation
pub mod Hosts
pub mod Sessions
pub mod Safety
