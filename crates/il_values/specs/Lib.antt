pub mod Value
pub mod Bits
pub mod Once
