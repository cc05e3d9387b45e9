pub mod Due
pub mod Once
