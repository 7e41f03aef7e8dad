-- The cheapest gap of a dependence in a table of how often each gap is passed.
-- Main definitions: `LeastIn`, `CheapestIn`, `CheapestSays`.
use Rattle.std.specs.Prelude.{◌≡◌, true, List, ℕ, ◌≤◌, get_or}
use Rattle.paper_nests.specs.declared.Dependence as DE
use Rattle.paper_nests.specs.Nests.{Dep}
use Rattle.paper_nests.specs.Gaps.{has_gap}
use Rattle.paper_nests.specs.Stored.{dep_in}
use Rattle.paper_gaps.specs.Lies.{EndsIn}

-- r is the least entry of the table from lo to hi
pub record LeastIn (table : List ℕ) (lo hi r : ℕ) : Type 0 where
  pub at : ℕ
  pub low : lo ≤ at
  pub high : at ≤ hi
  pub is : r ≡ get_or table at 0
  pub least : (g : ℕ) → lo ≤ g → g ≤ hi → r ≤ get_or table g 0

-- r is the least entry at a gap of the dependence
pub record CheapestIn (ps : List ℕ) (e : Dep) (table : List ℕ) (r : ℕ) : Type 0 where
  pub at : ℕ
  pub its : has_gap ps e at ≡ true
  pub is : r ≡ get_or table at 0
  pub least : (g : ℕ) → has_gap ps e g ≡ true → r ≤ get_or table g 0

-- the same for any points in which `end` is the ENDDO of the loop that carries the dependence
abbrev pub CheapestSays : List ℕ → ℕ → DE.Dependence → ℕ → Type 0
CheapestSays table end e r = (ps : List ℕ) → EndsIn ps e end → CheapestIn ps (dep_in e) table r
