pub mod Kind
pub mod Laws
pub mod Cuts
pub mod Parts
