pub mod Results
pub mod Lines
pub mod Tables
pub mod Pieces
