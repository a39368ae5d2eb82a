pub mod Moves
pub mod Compared
pub mod Scaled
