pub mod Tests
pub mod Ends
pub mod Places
pub mod Told
