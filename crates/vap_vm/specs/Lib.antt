pub mod Operands
pub mod Operators
pub mod Passes
pub mod Run
pub mod View
