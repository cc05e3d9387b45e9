pub mod Plain
pub mod Once
