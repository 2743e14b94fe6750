pub mod Fills
pub mod Asked
pub mod Outlines
pub mod ReadSteps
pub mod Puts
