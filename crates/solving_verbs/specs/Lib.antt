pub mod Beginning
pub mod Found
pub mod ParametricVerbs
pub mod Reaching
