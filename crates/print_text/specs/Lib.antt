pub mod Print
pub mod Ran
pub mod Lengths
pub mod Kept
pub mod Fronts
pub mod Prints
pub mod Once
