pub mod Told
pub mod EarlierLaws
pub mod Once
