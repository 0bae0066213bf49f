pub mod Parts
pub mod Rows
pub mod Keys
pub mod Children
