-- Words of proofs and of private contracts.
pub mod Finding
pub mod Writing
pub mod Acting
