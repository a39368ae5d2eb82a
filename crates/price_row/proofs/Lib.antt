pub mod SumSteps
pub mod OtherBasics
pub mod CarriedBack
pub mod RowSteps
pub mod WantedSteps
pub mod WantedSigns
pub mod WordSums
pub mod NumberRates
pub mod WholeRows
pub mod ColumnNumbers
mod NumberRows
