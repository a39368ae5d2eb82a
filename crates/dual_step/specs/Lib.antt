pub mod Cheapest
pub mod Prices
