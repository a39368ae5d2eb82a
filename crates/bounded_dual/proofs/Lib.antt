pub mod DualEvidence
pub mod Returning
pub mod Ending
pub mod WalkSteps
pub mod CompleteDual
pub mod Returns
