pub mod Text
pub mod Output
pub mod Put
pub mod Inner
