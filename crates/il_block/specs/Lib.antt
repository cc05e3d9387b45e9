pub mod Called
pub mod Once
