pub mod Numbers
pub mod Places
pub mod Checking
pub mod Writing
pub mod Reading
pub mod RoundTrip
pub mod Readings
pub mod Beginnings
