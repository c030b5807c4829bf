pub mod Depth
pub mod Room
pub mod Shape
mod ValueSamples
mod ProgramSamples
mod Stores
pub mod CommandsGiven
