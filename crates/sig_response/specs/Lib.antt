pub mod Bounds
pub mod Fastest
pub mod Laws
pub mod Onward
pub mod Refusals
pub mod Rest
pub mod Worst
