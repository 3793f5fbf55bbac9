pub mod Below
pub mod Lowest
pub mod Field
pub mod Laws
