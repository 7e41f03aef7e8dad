-- Laws of lines.
pub mod Spelling
pub mod Values
pub mod Digits
pub mod Reading
pub mod Writing
pub mod Parts
