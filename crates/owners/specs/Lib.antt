pub mod Owners
pub mod Spares
