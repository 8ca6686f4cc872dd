pub mod Shapes
pub mod Stores
pub mod Frames
pub mod Typed
pub mod Safety
