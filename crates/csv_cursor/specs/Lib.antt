pub mod Passing
pub mod Once
