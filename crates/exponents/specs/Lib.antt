pub mod Exponent
