pub mod WeighSteps
pub mod PatternSteps
