mod Courses
mod Runs
mod Answers
pub mod Settling
