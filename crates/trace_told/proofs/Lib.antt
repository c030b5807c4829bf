pub mod Chosen
pub mod Filled
pub mod ValuesNamed
pub mod Pieces
pub mod Rowed
pub mod Shared
mod EndsBegan
mod EndsKept
mod EndsLooked
mod EndOrders
pub mod EndSeconds
mod EndsSeen
mod EndsTold
pub mod Keeping
pub mod Listed
pub mod WordsNamed
pub mod Refused
pub mod ListingTold
mod Gaps
mod Printed
mod Traced
