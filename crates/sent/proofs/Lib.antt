pub mod SmallestLaws
pub mod SentIsNearest
pub mod MarginBySize
pub mod ClaimsShown
pub mod Anchors
