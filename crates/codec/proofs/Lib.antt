pub mod RemainderSteps
pub mod EncodeLaws
pub mod FaultLaws
pub mod ReadLaws
pub mod CalledLaws
pub mod CodecOneAnswer
pub mod RoundTrip
pub mod Anchors
