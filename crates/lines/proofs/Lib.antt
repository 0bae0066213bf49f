-- Laws on the text of a line, which code's proofs cite.
pub mod Masks
pub mod Decimals
pub mod Pieces
pub mod Readings
