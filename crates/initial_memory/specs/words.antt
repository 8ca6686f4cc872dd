-- Words of contracts and proofs.
pub mod Windows
