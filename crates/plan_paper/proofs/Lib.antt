-- Laws of papers with barred gaps.
pub mod Ranking
pub mod WordGaps
pub mod TakingBack
pub mod Blocked
pub mod Renumbered
pub mod Rings
pub mod Reducing
pub mod Papers
