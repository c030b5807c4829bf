pub mod Decimal
pub mod Lines
pub mod Words
pub mod OneAnswer
pub mod SomeAnswer
