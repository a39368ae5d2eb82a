mod Digits
pub mod Sameness
