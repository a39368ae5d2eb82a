pub mod Numbers
pub mod Asked
pub mod Passing
pub mod Claims
pub mod Solutions
pub mod Intervals
pub mod Closings
