pub mod EndingAnswers
pub mod MayEnd
pub mod Why
pub mod Reported
pub mod Truth
pub mod Accounted
