pub mod Falling
pub mod Once
