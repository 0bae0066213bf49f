-- Laws on what is kept of a search's leaves, which code's proofs cite.
pub mod Limits
pub mod Ones
pub mod Own
pub mod Leaves
pub mod Narrowed
pub mod Renewed
pub mod Values
