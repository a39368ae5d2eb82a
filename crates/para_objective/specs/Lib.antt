pub mod Reach
pub mod Breaks
pub mod Faces
pub mod Runs
pub mod Method
