pub mod Kind
pub mod Laws
pub mod Every
pub mod Rows
