pub mod Acted
pub mod Parts
pub mod Once
