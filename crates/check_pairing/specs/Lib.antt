pub mod Words
pub mod WordsLaws
pub mod SameLaws
pub mod Once
