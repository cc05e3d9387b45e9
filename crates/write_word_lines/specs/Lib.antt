pub mod Stores
pub mod Once
pub mod ByNumbers
