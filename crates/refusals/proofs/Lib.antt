pub mod Tests
pub mod Fillings
pub mod Readings
pub mod Outcomes
