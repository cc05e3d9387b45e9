pub mod Words
pub mod WordsLaws
pub mod Once
