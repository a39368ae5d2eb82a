pub mod Statuses
pub mod Devices
pub mod Answer
pub mod Reads
pub mod Causes
pub mod Starting
