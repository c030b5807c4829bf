pub mod Pieces
pub mod Lists
pub mod Cuts
pub mod Comparing
pub mod Aspects
pub mod Besides
