pub mod Csv
pub mod Lcov
pub mod Lines
pub mod Rows
pub mod Table
pub mod Seconds
pub mod Tallied
