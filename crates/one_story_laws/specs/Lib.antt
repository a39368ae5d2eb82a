pub mod Story
pub mod Views
pub mod Laws
