pub mod Refusals
pub mod Lists
pub mod Values
pub mod Sums
pub mod Columns
pub mod Sets
pub mod Program
mod Made
pub mod Selecting
pub mod ValuesInSets
