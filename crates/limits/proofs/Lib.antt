-- What the limits give, by the bits of a label, and the laws that code's proofs cite.
pub mod Axes
pub mod Streams
pub mod Passing
