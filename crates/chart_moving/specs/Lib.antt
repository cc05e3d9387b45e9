pub mod Moves
pub mod EnterLaws
pub mod Once
