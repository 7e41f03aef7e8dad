-- Places among a placement's words.
-- Main definitions: `FreeFrom`, `IsLatest`, `HasLatest`.
use Rattle.std.specs.Prelude.{◌≡◌, true, false, List, ℕ, ◌≤◌, ◌<◌, get_or}
use Rattle.paper_placements.specs.Words.{GAPS, holds}

-- r is the lowest gap from lo on that the words do not hold; `count` for none
pub record FreeFrom (ws : List ℕ) (lo count r : ℕ) : Type 0 where
  pub low : lo ≤ r
  pub fits : r ≤ count
  pub free : r < count → holds ws r ≡ false
  pub held : (i : ℕ) → lo ≤ i → i < r → holds ws i ≡ true

-- r is the highest gap up to g that the words hold; 0 for none
pub record IsLatest (ws : List ℕ) (g r : ℕ) : Type 0 where
  pub low : r ≤ g
  pub held : 0 < r → holds ws r ≡ true
  pub none : (i : ℕ) → r < i → i ≤ g → holds ws i ≡ false

-- the table has the highest up to each gap
abbrev pub HasLatest : List ℕ → List ℕ → Type 0
HasLatest ws table = (g : ℕ) → g < GAPS → IsLatest ws g (get_or table g 0)
