pub mod Answers
pub mod ByWords
pub mod Once
