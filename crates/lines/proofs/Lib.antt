pub mod AnswerLaws
pub mod KeptLaws
pub mod StillLaws
pub mod BlockLaws
pub mod OrderLeftOut
pub mod ClaimsShown
pub mod Anchors
