-- Nests: points, loops, gaps, dependences, and when a nest is valid.
pub mod Kinds
pub mod Nests
pub mod Loops
pub mod Gaps
pub mod Ring
pub mod Valid
pub mod Stored
