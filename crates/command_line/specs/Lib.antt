pub mod Sizes
pub mod Requests
pub mod Options
