pub mod Times
pub mod Intergreens
pub mod Held
