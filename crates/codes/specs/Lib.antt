pub mod Code
pub mod Codeword
pub mod Lagrange
pub mod Generator
pub mod Claims
