-- Laws of sittings: counts, loops around a gap, the turns and the outcome of a move.
pub mod Words
pub mod Counts
pub mod Around
pub mod Moving
pub mod Turns
pub mod Outcome
