pub mod Run
pub mod Advance
pub mod Row
pub mod RowLaws
pub mod Follow
pub mod Accepted
pub mod Scans
pub mod Once
