pub mod AsRead
pub mod Going
pub mod Once
