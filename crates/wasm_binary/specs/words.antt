-- Words of proofs and of private contracts.
pub mod Drafts
pub mod Kinds
