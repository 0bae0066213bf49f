pub mod Folding
pub mod Writing
pub mod Runs
pub mod Reading
pub mod RoundTrip
