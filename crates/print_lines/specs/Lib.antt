pub mod Results
pub mod Once
