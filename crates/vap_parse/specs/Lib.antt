pub mod Kinds
pub mod Input
pub mod Forms
pub mod Descent
pub mod View
pub mod Grammar
pub mod Refusal
pub mod Same
