-- The textbook method: the rule, what its results are held to, and what the code works with.
pub mod Tries
pub mod Sets
pub mod Places
pub mod Steps
pub mod Says
