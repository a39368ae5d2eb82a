pub mod Vectors
pub mod Rates
pub mod Points
pub mod Laws
