mod Absent
pub mod TwoPairs
pub mod FaultParts
mod Faultless
