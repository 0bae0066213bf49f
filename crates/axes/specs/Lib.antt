pub mod Doubled
pub mod Tables
