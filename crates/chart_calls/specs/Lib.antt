pub mod Runs
pub mod Once
pub mod Steps
pub mod StepLaws
pub mod RunsLaws
