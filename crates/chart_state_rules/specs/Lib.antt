pub mod Values
pub mod Once
