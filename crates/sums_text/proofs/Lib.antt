pub mod Groups
pub mod Last
pub mod TableRows
pub mod Served
