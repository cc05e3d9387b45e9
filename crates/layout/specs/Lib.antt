pub mod Laid
pub mod LaidLaws
pub mod SameLaws
pub mod Once
