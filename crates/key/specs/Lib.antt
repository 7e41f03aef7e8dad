-- What the program reads.
pub mod Inputs
