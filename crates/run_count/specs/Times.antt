-- How often each gap is passed in a run, as a table, and sums of a table's entries.
-- Main definitions: `HasTimes`, `sum_in`.
use Rattle.std.specs.Prelude.{◌≡◌, List, [], ◌∷◌, ℕ, ◌+◌, ◌<◌, length}
use Rattle.laws.specs.Entries.{at}
use Rattle.run_barriers.specs.Calls.{times_at}

-- the table has how often each gap is passed
abbrev pub HasTimes : List ℕ → List ℕ → List ℕ → Type 0
HasTimes ps ts table = (g : ℕ) → g < length ps → at table g ≡ times_at ps ts g

-- the sum of a table's entries at some gaps
abbrev pub sum_in : List ℕ → List ℕ → ℕ
sum_in table [] = 0
sum_in table (g ∷ gs) = at table g + sum_in table gs
