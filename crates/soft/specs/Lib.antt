pub mod Value
pub mod Order
pub mod Distance
pub mod Candidate
pub mod Sorted
pub mod Claims
