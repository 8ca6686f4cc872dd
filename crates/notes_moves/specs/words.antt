pub mod Assertions
pub mod Chunks
pub mod HeapMoves
pub mod Moves
