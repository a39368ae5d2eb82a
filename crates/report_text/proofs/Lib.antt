pub mod Overflows
pub mod Verdicts
pub mod Solutions
pub mod RangeParts
pub mod ParametricParts
