pub mod ClearLaws
pub mod PutLaws
pub mod BlockSteps
