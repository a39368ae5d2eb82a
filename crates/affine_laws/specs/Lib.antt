pub mod Conditions
pub mod Ends
pub mod Laws
