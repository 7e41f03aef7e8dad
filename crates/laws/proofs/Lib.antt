-- Laws on tests, numbers and lists that any project could use.
pub mod Tests
pub mod Ranges
pub mod Bits
pub mod Choices
pub mod Members
pub mod Stores
pub mod Implies
pub mod Connectives
pub mod Ors
pub mod Copies
pub mod Xor
