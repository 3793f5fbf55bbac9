pub mod DigitLaws
pub mod CutLaws
pub mod SplitLaws
