-- 001, lemma 2, over placements as predicates: sums over the loops; what a call costs at each loop; a loop's two
-- neighbours among the gaps around it; the swap of a loop's barriers for the planner's; the theorem.
pub mod Totals
pub mod Prices
pub mod Beside
pub mod Swap
pub mod SwapCounts
pub mod Fewest
