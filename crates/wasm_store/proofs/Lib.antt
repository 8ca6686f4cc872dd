pub mod StepLaws
pub mod TypeLaws
pub mod FrameLaws
