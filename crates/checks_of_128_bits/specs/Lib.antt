pub mod Making
pub mod Fractions
pub mod Intervals
pub mod Closings
