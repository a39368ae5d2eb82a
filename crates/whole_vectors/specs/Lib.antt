pub mod Quotients
pub mod Words
pub mod Ranks
pub mod SparseWhole
