-- The first smallest key by rows, and the laws that code's proofs cite.
pub mod Least
pub mod Rows
pub mod Taking
pub mod Filling
