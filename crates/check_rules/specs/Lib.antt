pub mod Parts
pub mod Once
