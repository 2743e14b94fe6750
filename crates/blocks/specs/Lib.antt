pub mod Format
pub mod Kinds
pub mod Readings
pub mod Numbers
