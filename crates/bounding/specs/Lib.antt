pub mod Cut
pub mod Axes
pub mod Answers
