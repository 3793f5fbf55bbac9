pub mod DecodeLaws
pub mod DecodeOneAnswer
pub mod CalledLaws
