pub mod Rungs
pub mod RungLaws
pub mod Once
pub mod Sections
pub mod SectionLaws
