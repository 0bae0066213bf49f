-- A node, and what is found of its children.
pub mod Expand
