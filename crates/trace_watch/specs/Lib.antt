pub mod Counted
pub mod Places
pub mod Events
pub mod Listed
