pub mod Names
mod Faults
mod Programs
