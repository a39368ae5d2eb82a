pub mod OnWay
pub mod Punched
pub mod Dependent
mod Marks
mod Named
mod Variables
mod CardStep
mod Begun
