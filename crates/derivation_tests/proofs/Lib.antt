pub mod StepParts
