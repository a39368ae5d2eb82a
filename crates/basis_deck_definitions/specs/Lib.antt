pub mod Placings
pub mod Reading
pub mod Writing
pub mod Dependencies
