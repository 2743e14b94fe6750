pub mod Bounds
pub mod Errors
