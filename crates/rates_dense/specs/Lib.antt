pub mod Inverse
pub mod Placed
pub mod Lines
pub mod Opening
pub mod Table
pub mod Refusals
