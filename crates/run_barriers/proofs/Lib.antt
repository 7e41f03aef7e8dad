-- The key has the fewest barrier calls (001, lemma 2): turns, how often a gap is passed, calls loop by loop, the
-- theorem; how large a number of calls can be; a worked case.
pub mod Turns
pub mod Times
pub mod ByLoops
pub mod FewestCalls
pub mod Sizes
pub mod CallCases
