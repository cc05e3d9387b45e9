pub mod Reads
pub mod ReadLaws
pub mod WaysBack
pub mod Once
