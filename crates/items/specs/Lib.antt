pub mod Line
pub mod Number
pub mod Cut
