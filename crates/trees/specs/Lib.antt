pub mod Trees
pub mod Formed
pub mod Facts
