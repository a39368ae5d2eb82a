pub mod Intervals
pub mod Lines
pub mod Sheets
pub mod Tables
pub mod Values
pub mod Buffers
