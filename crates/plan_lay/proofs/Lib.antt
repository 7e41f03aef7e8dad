-- Laws of laying.
pub mod Calls
pub mod Sharing
pub mod Turns
pub mod Whole
