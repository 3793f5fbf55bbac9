pub mod Computing
pub mod SettledWords
pub mod SettledShown
pub mod WholeExampleShown
