pub mod CountLaws
pub mod CountSteps
pub mod PlaceSteps
pub mod SortedOrder
