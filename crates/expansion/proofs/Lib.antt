-- Laws on a node and its children, which code's proofs cite.
pub mod Rows
pub mod Nodes
pub mod Kids
