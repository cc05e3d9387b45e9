pub mod Forms
pub mod KindLaws
pub mod Once
