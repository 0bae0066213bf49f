pub mod Owners
pub mod Sums
pub mod Demand
pub mod Isolation
pub mod Spares
pub mod Readings
