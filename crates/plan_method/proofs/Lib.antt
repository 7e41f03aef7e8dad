-- The planner's theorem, from the bottom to the top: the nest and the claim; walks; what a table's row says; what every
-- settled placement owes (Exchange, Bounds); what is laid (Ring, Attained); computed tables; the theorem;
-- and the same of a nest's own points and dependences (Instance, Cuts, NestKey).
pub mod World
pub mod Inside
pub mod Counts
pub mod Claim
pub mod Unions
pub mod Hits
pub mod Needs
pub mod Walk
pub mod Exchange
pub mod Choices
pub mod Rows
pub mod Ring
pub mod Bounds
pub mod AttainedBody
pub mod AttainedFront
pub mod AttainedSweep
pub mod Attained
pub mod AttainedEmpty
pub mod Alike
pub mod AlikeRows
pub mod Tables
pub mod Theorem
pub mod Papers
pub mod Instance
pub mod Cuts
pub mod NestKey
-- the key is first in list order among all keys: by exchange once more, step by step
pub mod FirstPlaces
pub mod FirstSweep
pub mod FirstChoice
pub mod FirstLoop
pub mod KeyFirst
