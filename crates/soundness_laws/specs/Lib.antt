pub mod ParametricRuns
pub mod Truth
pub mod Headline
pub mod Laws
