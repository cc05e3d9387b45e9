pub mod Effect
pub mod Once
