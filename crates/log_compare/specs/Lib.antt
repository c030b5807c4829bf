pub mod Fields
pub mod Text
pub mod Difference
pub mod Stepping
pub mod Rows
pub mod Sides
