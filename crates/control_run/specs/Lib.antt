pub mod Statuses
pub mod Devices
pub mod Finishing
pub mod Running
pub mod Ended
