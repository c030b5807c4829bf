pub mod Plan
pub mod Wish
pub mod Parts
