pub mod Sums
pub mod Known
pub mod Workspace
pub mod Places
pub mod RateNumbers
pub mod NumbersOver
