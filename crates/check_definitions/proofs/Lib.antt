pub mod Passing
pub mod Holding
mod Examples
