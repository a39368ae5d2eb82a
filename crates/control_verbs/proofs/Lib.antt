pub mod Choices
pub mod Forms
pub mod Names
pub mod Steps
pub mod WordTests
pub mod Taken
pub mod Outside
pub mod Quoted
