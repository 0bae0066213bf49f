pub mod Limits
pub mod Turn
