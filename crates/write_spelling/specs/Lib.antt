pub mod Digits
pub mod Declared
pub mod Blocks
pub mod Once
