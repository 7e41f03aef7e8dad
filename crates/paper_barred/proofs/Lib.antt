-- Laws of barred gaps.
pub mod Ranks
pub mod Renumbered
pub mod RingPoints
pub mod RingNests
pub mod Reduced
pub mod ReducedNest
pub mod Blocked
