-- Words of proofs and of private contracts.
pub mod Effects
pub mod Layers
pub mod Kinds
