pub mod Programs
pub mod Places
pub mod Orders
