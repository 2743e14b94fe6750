pub mod Conditions
pub mod Labelled
pub mod Plans
pub mod Turns
pub mod Refused
pub mod Theorems
