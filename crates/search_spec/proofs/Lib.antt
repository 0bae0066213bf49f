-- The walk over numbers gives the model's answer, and the laws that code's proofs cite.
pub mod Arrays
pub mod Keys
pub mod Reach
pub mod Order
pub mod Agree
pub mod Below
pub mod Answer
pub mod Bounds
pub mod Minima
pub mod Steps
pub mod Turns
pub mod Early
pub mod Parts
