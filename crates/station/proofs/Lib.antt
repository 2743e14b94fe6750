pub mod Accepted
pub mod Senses
