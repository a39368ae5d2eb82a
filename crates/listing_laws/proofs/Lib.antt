pub mod Cutting
pub mod Digits
pub mod Values
pub mod Lines
pub mod Words
pub mod Reports
