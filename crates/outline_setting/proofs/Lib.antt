pub mod Walks
pub mod Candidacy
