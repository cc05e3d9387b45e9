pub mod Given
pub mod Signs
pub mod Same
pub mod Once
