pub mod Outcome
pub mod Demand
pub mod Steps
pub mod Handed
