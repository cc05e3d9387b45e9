pub mod Choice
pub mod LinkLaws
pub mod Once
pub mod WidestLaws
pub mod Held
pub mod Making
pub mod StepLaws
