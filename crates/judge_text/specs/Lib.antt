pub mod Ticks
pub mod Words
pub mod Rows
pub mod Lines
pub mod Sums
