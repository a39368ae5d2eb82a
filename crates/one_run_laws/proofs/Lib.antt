pub mod Answering
pub mod Parametric
pub mod Asking
pub mod Running
pub mod Stopping
pub mod AnsweredOnce
pub mod OwnRuns
