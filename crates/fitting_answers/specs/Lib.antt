pub mod Fitting
pub mod Real
