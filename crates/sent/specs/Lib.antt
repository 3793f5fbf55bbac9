pub mod Smallest
pub mod Claims
