-- The planner's theorem in the paper's words: KeyIsKey, then demand 3, and what leads to them.
pub mod KeyIsKey
pub mod Demand3
pub mod KeyGaps
pub mod Predicates
-- where nothing is barred, the planner's key; with barred gaps, that of the renumbered nest, taken back
pub mod PlainKey
pub mod BarredKey
-- the key is first in list order among all keys
pub mod ListOrder
pub mod KeyLengths
pub mod KeyFirst
pub mod FirstSmallest
pub mod Sizes
pub mod Marking
pub mod RingKey
pub mod OneKey
pub mod KeyCases
pub mod Starred
pub mod FirstCases
-- planners that fail
pub mod Cheapest
pub mod Planners
pub mod Excluded
