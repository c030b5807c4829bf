pub mod Numbered
pub mod Pieces
pub mod RecordPlaces
pub mod FieldSpans
pub mod Numbers
pub mod Reasons
pub mod Notes
pub mod Passed
