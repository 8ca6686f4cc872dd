pub mod SessionLaws
pub mod Extending
pub mod HostLaws
pub mod Importing
pub mod Allocating
pub mod Initializing
pub mod Instantiating
pub mod Embedding
