-- The exported calls side by side.
pub mod Agree
