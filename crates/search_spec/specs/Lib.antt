pub mod Arrays
pub mod Program
pub mod Reach
pub mod Parts
