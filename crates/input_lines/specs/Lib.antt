pub mod Header
pub mod WordLine
