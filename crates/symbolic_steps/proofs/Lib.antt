pub mod Absent
pub mod Making
pub mod Pushing
pub mod Alike
pub mod Storing
