pub mod Bare
pub mod BareLaws
pub mod Once
