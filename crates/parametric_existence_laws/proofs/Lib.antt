pub mod Runs
pub mod Reaches
pub mod ObjectiveFaces
pub mod ObjectiveParts
pub mod RhsParts
