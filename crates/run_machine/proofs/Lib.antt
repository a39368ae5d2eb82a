pub mod Giving
pub mod Punching
mod Deciding
mod Filing
mod Revising
mod Titling
mod Unselected
mod Clamping
