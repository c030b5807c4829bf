pub mod PassFacts
pub mod Sizes
pub mod StepFacts
