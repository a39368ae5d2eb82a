mod Old
mod Faults
mod FreeRevisions
mod Combinations
mod Examples
pub mod Steps
pub mod Pairs
