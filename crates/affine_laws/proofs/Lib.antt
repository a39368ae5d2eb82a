pub mod Single
pub mod Lists
pub mod Bounds
pub mod Examples
