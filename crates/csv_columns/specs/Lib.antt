pub mod Low
pub mod Once
