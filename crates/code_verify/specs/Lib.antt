pub mod Ends
pub mod First
pub mod Room
pub mod Shape
pub mod Tables
pub mod Given
