mod Showing
pub mod Ranging
pub mod Staying
mod Viewing
