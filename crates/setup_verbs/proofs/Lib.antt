pub mod Giving
pub mod Settling
pub mod Selected
pub mod Present
mod Setting
pub mod Selecting
pub mod Punched
pub mod Inserted
pub mod Counting
pub mod Reporting
