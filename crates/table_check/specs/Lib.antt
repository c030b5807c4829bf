pub mod Fields
pub mod Lines
pub mod Faults
pub mod Passed
pub mod Read
pub mod Refused
pub mod Seen
