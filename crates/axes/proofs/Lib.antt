pub mod Lent
pub mod Doubled
pub mod Tables
pub mod Costs
pub mod Bridge
