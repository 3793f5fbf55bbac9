pub mod Exponents
pub mod Table
