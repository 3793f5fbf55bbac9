pub mod PatternCount
pub mod SkipSteps
