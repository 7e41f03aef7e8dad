-- Laws of nests: levels, loops, gaps, dependences, the ring; of the nest as it is stored, and of the code's scans.
pub mod Levels
pub mod Loops
pub mod Gaps
pub mod Deps
pub mod Ring
pub mod Bars
pub mod Flags
pub mod Stored
pub mod Scan
pub mod Backward
pub mod Ends
pub mod Cases
