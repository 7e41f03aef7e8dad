-- Arguments that a text spells, and how long one is at most.
pub mod Spelling
pub mod Lengths
