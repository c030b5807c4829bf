pub mod Layout
pub mod Labels
pub mod Compiled
