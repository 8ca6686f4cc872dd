pub mod WidthLemmas
pub mod CountLemmas
pub mod RotationLemmas
pub mod SignedLemmas
pub mod RangeLaws
pub mod ByteLaws
pub mod UndefinedLaws
pub mod TypeLaws
