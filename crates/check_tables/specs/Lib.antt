pub mod Verdicts
pub mod Once
