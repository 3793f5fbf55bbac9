pub mod ShapeLaws
pub mod PackingLaws
pub mod PackedBits
pub mod Anchors
