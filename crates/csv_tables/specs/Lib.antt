pub mod Told
pub mod Once
