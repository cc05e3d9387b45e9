pub mod Sizes
pub mod Validity
pub mod Once
