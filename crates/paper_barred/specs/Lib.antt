-- Barred gaps: placements that avoid them, the unbarred gaps renumbered, and the nest of one loop that these make.
pub mod Ranks
pub mod Reduced
