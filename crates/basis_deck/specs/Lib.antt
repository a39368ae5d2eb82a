pub mod Installing
pub mod Punching
pub mod Reading
pub mod DraftView
