pub mod Views
pub mod Chosen
pub mod Pieces
