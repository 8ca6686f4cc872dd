pub mod FileOnce
pub mod FileSome
pub mod FileRead
pub mod FileGood
