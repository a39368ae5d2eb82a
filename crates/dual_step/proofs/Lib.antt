pub mod BestRatio
pub mod RatioChoice
pub mod Taken
pub mod StepPrices
pub mod StepEvidence
