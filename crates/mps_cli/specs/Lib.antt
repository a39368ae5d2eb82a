pub mod Endings
pub mod Causes
pub mod Asked
pub mod Devices
