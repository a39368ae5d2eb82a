pub mod Gains
pub mod Reported
pub mod Underway
pub mod Answering
pub mod Stepping
pub mod EndingLines
pub mod Sound
