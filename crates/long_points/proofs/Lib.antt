pub mod Holds
pub mod Orders
pub mod Sums
pub mod AtTheta
pub mod RowSums
