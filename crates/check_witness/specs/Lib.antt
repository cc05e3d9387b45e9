pub mod Shown
pub mod Passed
pub mod Enabled
pub mod Once
