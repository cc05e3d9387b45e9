pub mod Phases
pub mod Lines
