-- What is excluded before any claim, as one number a gap.
-- Main definitions: `first_at`, `FirstRoom`, `FirstStruck`.
use Rattle.std.specs.Prelude.{◌≡◌, Bool, List, ℕ, suc, ◌≤◌, ◌<◌, eqb, length}
use Rattle.laws.specs.Choice.{pick, when}
use Rattle.laws.specs.Entries.{at}
use Rattle.paper_nests.specs.Kinds.{POINTS}
use Rattle.paper_placements.specs.Words.{holds}

-- of a barred gap a number above every loop's; of a gap of a loop with count 0 one more than that loop; else 0
abbrev pub first_at : Bool → ℕ → ℕ → ℕ
first_at barred owner count = pick barred (suc POINTS) (when (eqb count 0) (suc owner))

-- the tables have an entry for every gap, and for its loop
pub record FirstRoom (count : ℕ) (owners counts : List ℕ) : Type 0 where
  pub small : count ≤ POINTS
  pub owners_long : length owners ≡ POINTS
  pub counts_long : length counts ≡ POINTS
  pub owners_in : (g : ℕ) → g < count → at owners g < POINTS

-- each of the first gaps has its number
pub record FirstStruck (count : ℕ) (ws owners counts struck : List ℕ) : Type 0 where
  pub long : length struck ≡ POINTS
  pub first : (g : ℕ) → g < count → at struck g ≡ first_at (holds ws g) (at owners g) (at counts (at owners g))
