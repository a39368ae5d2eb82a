pub mod Marks
pub mod Rebuilding
pub mod Keeping
pub mod Turns
