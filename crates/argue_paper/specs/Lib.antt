-- The argument of a paper, in a buffer.
pub mod Spelled
