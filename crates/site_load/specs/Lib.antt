pub mod Loading
pub mod Reasons
pub mod Sites
pub mod Stop
