pub mod Truths
pub mod Guarding
pub mod Deciding
