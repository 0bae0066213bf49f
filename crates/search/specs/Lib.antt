-- The search over numbers, against which code is proved.
pub mod Nodes
pub mod Values
pub mod Holds
