pub mod Receives
pub mod Inner
