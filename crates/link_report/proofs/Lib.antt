pub mod NoMemory
pub mod LinkOnce
pub mod LinkSome
pub mod LinkGood
pub mod LinkMade
