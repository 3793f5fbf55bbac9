pub mod Best
pub mod Search
pub mod Positions
pub mod Plan
pub mod ByRank
pub mod Pattern
pub mod Part
pub mod Claims
