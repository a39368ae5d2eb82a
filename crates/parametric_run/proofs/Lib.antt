pub mod Openings
pub mod Chains
pub mod Walks
pub mod Complete
pub mod Refusals
pub mod Workspaces
mod FaceWalk
mod ChainWalk
mod OpeningFacts
