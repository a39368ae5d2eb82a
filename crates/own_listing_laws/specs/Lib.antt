pub mod Slacks
pub mod Printed
pub mod Laws
pub mod Attestable
pub mod AnyLength
pub mod WholeRuns
