pub mod CellParts
pub mod FormulaParts
pub mod Parts
pub mod Scopes
