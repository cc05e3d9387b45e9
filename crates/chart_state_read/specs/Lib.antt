pub mod Codes
pub mod CodesLaws
pub mod Once
