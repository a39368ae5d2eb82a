mod Examples
pub mod Names
pub mod Groups
pub mod Each
pub mod Places
pub mod NamePlaces
pub mod LawfulEntries
pub mod Parts
pub mod PlainRows
pub mod RowsBy
pub mod Lawful
pub mod Added
pub mod OtherRows
pub mod Again
