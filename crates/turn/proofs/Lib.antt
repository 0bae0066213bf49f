pub mod Limits
pub mod Levels
pub mod Next
