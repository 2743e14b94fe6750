pub mod Systems
pub mod Compare
pub mod Judge
pub mod Frames
pub mod Faults
pub mod Checking
pub mod Sense
pub mod Again
