pub mod Decimals
pub mod DecimalLaws
pub mod Once
