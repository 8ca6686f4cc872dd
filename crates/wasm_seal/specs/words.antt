-- Words of proofs and of private contracts.
pub mod Parts
