pub mod Weaker
pub mod Outcomes
pub mod Runs
