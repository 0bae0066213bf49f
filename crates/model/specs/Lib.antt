-- Document 01 as definitions, in its order.
pub mod Constellation
pub mod Metric
pub mod Order
pub mod Soft
pub mod Walk
pub mod Block
pub mod Search
pub mod Demand
