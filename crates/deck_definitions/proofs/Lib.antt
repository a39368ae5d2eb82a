pub mod Examples
mod Faults
mod FreeDecks
mod Combinations
pub mod Steps
pub mod Pairs
pub mod WrittenCards
pub mod CardTexts
pub mod Accepted
pub mod GoesOn
pub mod Validity
pub mod Converted
mod MadeJobs
