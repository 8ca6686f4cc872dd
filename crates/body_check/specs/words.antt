-- Words of proofs and of private contracts.
pub mod Answers
pub mod Known
pub mod Operands
pub mod Steps
pub mod Walks
