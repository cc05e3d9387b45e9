pub mod Names
pub mod Lines
pub mod Page
pub mod Lengths
pub mod Once
