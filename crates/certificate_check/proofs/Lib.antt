pub mod NoRefusal
pub mod Meaning
pub mod TrueClaims
pub mod Left
pub mod Skips
pub mod Each
pub mod Columns
pub mod Limits
