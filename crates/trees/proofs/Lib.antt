pub mod Forming
pub mod ByTag
pub mod Unfolding
pub mod Keeping
pub mod Coding
pub mod Handing
pub mod Closing
pub mod Accepting
