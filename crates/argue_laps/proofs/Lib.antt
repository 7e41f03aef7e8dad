-- Laws of laps: steps of two sweeps alike, the suffix of a lap, one lap, and all of them.
pub mod Alike
pub mod Suffix
pub mod OneLap
pub mod Lapping
