pub mod WrittenRan
pub mod WholeLaws
pub mod Once
