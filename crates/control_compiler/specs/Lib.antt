pub mod Valid
pub mod Cards
pub mod After
pub mod Jobs
pub mod Underway
pub mod Outcomes
pub mod Settled
