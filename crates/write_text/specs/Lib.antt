pub mod Wrote
pub mod TextLaws
pub mod Once
pub mod Texts
