pub mod Lists
pub mod Places
pub mod ByNames
pub mod Puts
pub mod RowEdits
pub mod ColumnEdits
pub mod SetEdits
pub mod Revisions
