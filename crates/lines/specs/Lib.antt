pub mod Answer
pub mod Program
pub mod Awaited
pub mod Memory
pub mod Finished
pub mod Claims
