pub mod Rebuilt
pub mod Last
pub mod Form
