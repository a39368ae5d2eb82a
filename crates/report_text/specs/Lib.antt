pub mod Parametric
pub mod Ranges
pub mod Views
pub mod Solutions
pub mod Verdicts
