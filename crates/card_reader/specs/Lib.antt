pub mod Card
pub mod Reading
pub mod Spans
pub mod Stop
