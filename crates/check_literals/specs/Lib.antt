pub mod Places
pub mod PlaceLaws
pub mod Once
