pub mod Cases
pub mod Filled
