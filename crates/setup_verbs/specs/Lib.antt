pub mod Kept
pub mod Machines
pub mod Standing
pub mod Statements
pub mod Opening
pub mod Overflows
pub mod Inserting
