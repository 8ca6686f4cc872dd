-- Words of proofs and of private contracts.
pub mod CodeReading
pub mod NumberReading
pub mod Reading
pub mod SectionReading
pub mod TypeReading
