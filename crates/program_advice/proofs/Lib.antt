mod AllKinds
pub mod EachPart
pub mod Putting
mod Standing
