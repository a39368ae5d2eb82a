mod Passing
mod Carried
mod Limits
mod Ends
mod ClosingSums
mod PastFacts
