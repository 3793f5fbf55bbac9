pub mod SettledCalls
pub mod Settled
pub mod WholeExample
pub mod OrderExample
