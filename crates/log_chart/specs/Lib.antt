pub mod Charted
pub mod Laws
pub mod Spans
pub mod Stays
pub mod Covers
