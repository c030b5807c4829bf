pub mod Bytes
pub mod Comments
pub mod PlanSlips
pub mod TableSlips
pub mod ProgramSlips
pub mod EntrySlips
