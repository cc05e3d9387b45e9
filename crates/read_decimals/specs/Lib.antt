pub mod Forms
pub mod Spelling
pub mod FormLaws
pub mod Once
