pub mod State
pub mod Moves
pub mod Verbs
pub mod Run
pub mod Answer
