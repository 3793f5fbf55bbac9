pub mod NarrowLaws
pub mod ToldLaws
pub mod ToldOneAnswer
