pub mod Decoded
pub mod Encoded
pub mod Trips
