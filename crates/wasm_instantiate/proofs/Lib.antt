pub mod ValueTypes
pub mod EnteringLemmas
pub mod SearchLemmas
pub mod WriteLemmas
pub mod ActLemmas
