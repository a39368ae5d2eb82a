pub mod Solve
pub mod Programs
mod PathRows
mod RangeRows
mod RunRows
mod EvidenceRows
