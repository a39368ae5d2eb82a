mod Different
pub mod CardStep
pub mod Standing
pub mod Ends
pub mod ByParts
mod FreeAnchors
