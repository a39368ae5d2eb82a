pub mod Reporting
pub mod Beginning
pub mod Lengths
