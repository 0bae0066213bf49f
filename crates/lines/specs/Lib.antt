pub mod Against
pub mod Text
pub mod Asked
