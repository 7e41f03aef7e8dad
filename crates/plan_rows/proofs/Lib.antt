-- Laws of the row of one loop.
pub mod Suffix
pub mod Listings
pub mod Valuing
pub mod Choosing
pub mod Copying
pub mod Making
