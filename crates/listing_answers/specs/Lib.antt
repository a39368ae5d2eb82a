pub mod Words
pub mod Readers
pub mod Claims
pub mod Solutions
pub mod Intervals
pub mod Closings
pub mod Taken
