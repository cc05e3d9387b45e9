pub mod Times
pub mod Once
