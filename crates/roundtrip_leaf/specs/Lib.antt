pub mod ShownLaws
pub mod Once
