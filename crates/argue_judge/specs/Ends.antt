-- The end of a claim over tables, and the low claims at the end of an argument.
-- Main definitions: `low_by`, `shown_by`, `exact_by`, `ShownRoom`, `ClosingRoom`, `Closed`, `low_at`, `all_low_in`.
use Rattle.std.specs.Prelude.{◌≡◌, Bool, true, false, ◌&&◌, ◌||◌, not, List, ℕ, zero, suc, ◌+◌, ◌≤◌, ◌<◌, eqb, ltb}
use Rattle.std.specs.Prelude.{Option, is_some}
use Rattle.laws.specs.Choice.{when}
use Rattle.laws.specs.Entries.{at}
use Rattle.paper_nests.specs.Kinds.{POINTS}
use Rattle.paper_nests.specs.Loops.{is_do}
use Rattle.paper_placements.specs.Words.{holds}
use Rattle.argue_claims.specs.Arguments.{greatest, lots}
use Rattle.argue_texts.specs.ArgumentTexts.{STEPS}
use Rattle.argue_weigh.specs.Striking.{excludes_at, Struck}

-- a claim with these a and b is low
abbrev pub low_by : ℕ → ℕ → Bool
low_by a b = eqb a 0 && eqb b 0

-- c sets with no gap in more than `most` of them show the claim of a loop with this count
abbrev pub shown_by : Bool → ℕ → ℕ → ℕ → Bool
shown_by low c most count = ltb (lots most count) (c + when low most)

-- a low claim is exact: as many sets as the count times `most`
abbrev pub exact_by : Bool → ℕ → ℕ → ℕ → Bool
exact_by low c most count = low && eqb c (lots most count)

-- the numbers are within their limits
pub record ShownRoom (c most count : ℕ) : Type 0 where
  pub few_sets : c ≤ STEPS
  pub few_times : most ≤ STEPS
  pub few_barriers : count ≤ POINTS

-- no gap was named, and no set counted, more often than a claim has steps
pub record ClosingRoom (last c count : ℕ) (times : List ℕ) : Type 0 where
  pub small : last < POINTS
  pub few_sets : c ≤ STEPS
  pub few_times : (g : ℕ) → at times g ≤ STEPS
  pub few_barriers : count ≤ POINTS

-- the claim of loop d, with ENDDO e, excludes what it says; where none is open, it has no line and nothing is excluded
pub record Closed (line : Option ℕ) (d e a b c count last : ℕ) (owners times old new : List ℕ) : Type 0 where
  pub none : is_some line ≡ false → new ≡ old
  pub struck
      : is_some line ≡ true
      → Struck
      (excludes_at a b (exact_by (low_by a b) c (greatest (at times) last) count) (greatest (at times) last) owners
      times d) d e old new

-- the point is no loop's DO, or the loop has count 0, or its low claim is among those known
abbrev pub low_at : List ℕ → List ℕ → List ℕ → ℕ → Bool
low_at ps counts ws d = not (is_do ps d) || (eqb (at counts d) 0 || holds ws d)

abbrev pub all_low_in : List ℕ → List ℕ → List ℕ → ℕ → Bool
all_low_in ps counts ws zero = true
all_low_in ps counts ws (suc d) = low_at ps counts ws d && all_low_in ps counts ws d
