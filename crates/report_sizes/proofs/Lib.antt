pub mod Looked
pub mod Tables
