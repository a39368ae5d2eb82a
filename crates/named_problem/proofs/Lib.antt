pub mod Keyed
mod LastRow
mod NumbersReported
pub mod Second
mod PartsReported
mod RowsReported
pub mod Grouped
pub mod Fronts
mod FirstPlaces
pub mod NamedValues
pub mod Counted
pub mod Retained
pub mod Slots
mod Settled
mod NamedRows
mod MadeOf
