pub mod Runs
pub mod Halves
pub mod Bits
pub mod Near
pub mod Answers
pub mod Parts
mod Costs
pub mod Cuts
