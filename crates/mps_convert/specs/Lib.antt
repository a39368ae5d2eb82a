pub mod State
pub mod DraftView
pub mod Conversion
