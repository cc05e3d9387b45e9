pub mod Files
pub mod Lengths
pub mod Once
