pub mod Slice
pub mod RunLaws
pub mod Once
