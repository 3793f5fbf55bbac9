pub mod StoreLaws
pub mod ExponentLaws
