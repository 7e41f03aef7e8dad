-- Tables over the points: the loop of every gap, the counts of all loops.
pub mod Tables
