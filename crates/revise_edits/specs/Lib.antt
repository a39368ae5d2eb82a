pub mod Summary
pub mod Needs
pub mod EditTests
