-- What is kept of a search's leaves.
pub mod Limits
pub mod Values
