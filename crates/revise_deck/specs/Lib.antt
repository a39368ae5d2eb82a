pub mod State
pub mod Different
pub mod DraftView
pub mod Revision
