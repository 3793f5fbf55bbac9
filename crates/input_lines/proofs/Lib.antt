pub mod NumberLaws
pub mod SignedLaws
pub mod ReadSteps
pub mod HeaderSteps
pub mod ValuesSteps
