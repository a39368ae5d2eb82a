pub mod Program
pub mod Statements
pub mod Arguments
pub mod Verbs
pub mod Compiled
pub mod Cells
