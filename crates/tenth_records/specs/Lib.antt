pub mod Record
pub mod Names
pub mod Parts
pub mod Unread
pub mod Header
pub mod Answers
