pub mod Cleared
pub mod Frames
pub mod GoesOn
pub mod Kept
pub mod Numbers
pub mod Silent
pub mod Sums
