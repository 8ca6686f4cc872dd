pub mod ListLemmas
pub mod SettingLemmas
pub mod StepLemmas
pub mod UseLemmas
