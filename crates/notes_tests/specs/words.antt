-- Words of contracts and proofs.
pub mod Passing
pub mod Tests
