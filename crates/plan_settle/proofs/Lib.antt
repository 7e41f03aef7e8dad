-- Laws of settling: the loops inside a loop one after the other, then the loop.
pub mod Heights
pub mod Calls
pub mod Lists
pub mod Some
pub mod Turns
pub mod Own
pub mod Quiet
pub mod Grounded
