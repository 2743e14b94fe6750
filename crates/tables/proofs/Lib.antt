pub mod Asked
pub mod Ladders
pub mod Sized
pub mod Used
pub mod Handed
pub mod Rooting
