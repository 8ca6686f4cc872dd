pub mod FuncLemmas
pub mod BuildingLemmas
pub mod WritingLemmas
pub mod StoringLemmas
pub mod PreparingLemmas
pub mod StartingLemmas
