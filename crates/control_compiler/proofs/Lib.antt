pub mod Ends
pub mod Live
pub mod Named
pub mod Passing
pub mod Places
pub mod Taking
