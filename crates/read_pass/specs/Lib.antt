pub mod Passes
pub mod PassLaws
pub mod Once
