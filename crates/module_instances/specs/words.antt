-- Words of proofs and of private contracts.
pub mod Building
pub mod Putting
