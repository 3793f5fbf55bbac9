pub mod RefusalLaws
pub mod RefusalSteps
pub mod FirstLaws
pub mod Anchors
