-- Fewer calls where loops run once: what a try leaves, what rounds of tries lead to, the floor, worked cases; a try by
-- chains, the floor by words, the rounds as the code makes them; the call.
pub mod TopLaws
pub mod Trimmed
pub mod Budgets
pub mod FloorBelow
pub mod ImprovingCases
pub mod PlaceSearch
pub mod Chains
pub mod Trying
pub mod TryTurns
pub mod GapRanges
pub mod RoundTurns
pub mod FloorWalk
pub mod Answers
pub mod Results
