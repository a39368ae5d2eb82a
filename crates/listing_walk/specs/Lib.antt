pub mod Ended
pub mod Standing
pub mod Parameter
pub mod Walking
pub mod Choosing
pub mod Asking
pub mod ParametricVerbs
pub mod Inserting
