pub mod Faults
pub mod Rules
pub mod Walk
pub mod Places
pub mod Sense
