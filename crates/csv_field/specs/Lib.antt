pub mod Field
pub mod FieldLaws
pub mod Once
