pub mod Faults
pub mod Asking
pub mod Image
pub mod Reading
pub mod Writing
