pub mod Put
pub mod Fit
pub mod WroteLaws
pub mod Once
