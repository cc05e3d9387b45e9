pub mod Pass
pub mod Once
