pub mod Call
pub mod Decode
pub mod Called
pub mod Outcome
