pub mod Products
pub mod Meaning
mod Whole
pub mod Truth
