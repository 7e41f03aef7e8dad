-- Sittings: loops around a gap, counts of a placement, what a sitting keeps, the counts after a move.
pub mod Around
pub mod Counts
pub mod Kept
pub mod Recounts
