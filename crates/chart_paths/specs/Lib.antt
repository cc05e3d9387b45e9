pub mod Walk
pub mod WalkLaws
pub mod Words
pub mod WordsLaws
pub mod Once
