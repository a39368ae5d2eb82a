mod Examples
pub mod Sizes
pub mod WordForms
pub mod Readings
