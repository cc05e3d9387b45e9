pub mod Sent
pub mod SentLaws
pub mod GroupLaws
pub mod Once
