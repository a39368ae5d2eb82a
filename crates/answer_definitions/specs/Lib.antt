pub mod Lines
pub mod Verdicts
pub mod Sections
pub mod ParametricRuns
pub mod Bases
pub mod Evidence
pub mod Real
