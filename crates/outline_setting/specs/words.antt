-- Words of contracts and proofs.
pub mod Judging
pub mod Kept
pub mod Trees
