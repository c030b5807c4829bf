pub mod CountTexts
pub mod FieldTexts
pub mod Beginnings
pub mod Lengths
pub mod Lists
pub mod LogLaws
pub mod LogLines
pub mod Pieces
pub mod Plain
mod Sample
pub mod Summed
pub mod Tallies
pub mod Without
