pub mod OrderLaws
pub mod DistanceLaws
pub mod ValueLaws
pub mod Anchors
pub mod CandidateLaws
