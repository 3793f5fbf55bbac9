pub mod GivenBack
pub mod Encode
pub mod Read
pub mod Called
pub mod Faulty
