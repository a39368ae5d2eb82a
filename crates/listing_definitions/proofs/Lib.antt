pub mod Decimals
mod Reports
mod Stops
