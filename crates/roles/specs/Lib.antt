pub mod Meaning
pub mod Frame
pub mod Theorems
pub mod Refusal
