pub mod PathStopLaws
pub mod Refused
pub mod SolutionLines
pub mod RangeLines
pub mod RangeStops
mod Facts
mod Printable
