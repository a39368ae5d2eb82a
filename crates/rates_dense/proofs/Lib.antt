mod Values
mod Fills
mod LineSteps
mod NewLines
mod Directions
mod Tables
mod Exchanges
mod RefusedLaws
mod OpeningTable
pub mod Changes
pub mod OpeningLines
pub mod ChangingLines
