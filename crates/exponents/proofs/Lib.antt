pub mod ExponentTableLaws
