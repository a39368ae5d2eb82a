pub mod Over
pub mod Words
pub mod Ranked
pub mod Listed
