-- Choices between values that every other definition uses.
pub mod Choice
pub mod Members
pub mod Bits
pub mod Entries
