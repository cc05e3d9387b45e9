pub mod Reads
pub mod ReadLaws
pub mod Once
