-- The shape of one loop and of the loops directly inside it, read off the code's arrays.
-- Main definitions: `Bound`, `Within`, `Kid`, `Ground`, `Kept`.
use Rattle.std.specs.Prelude.{◌≡◌, true, false, List, ℕ, suc, ◌≤◌, ◌<◌}
use Rattle.laws.specs.Entries.{at}
use Rattle.paper_nests.specs.Loops.{is_do, is_end}
use Rattle.plan_sweeps.specs.Listed.{row}

-- p is a boundary of the loop d with its ENDDO e
pub record Bound (own : List ℕ) (d e p : ℕ) : Type 0 where
  pub low : d ≤ p
  pub high : p ≤ e
  pub owner : d < p → at own p ≡ d

-- a front of the loop l with its ENDDO p: a gap of its range, or 0 for none
pub record Within (l p f : ℕ) : Type 0 where
  pub low : 0 < f → l < f
  pub high : f ≤ p

-- the loop l with its ENDDO p lies directly inside d, and its row of fronts lies in its range
pub record Kid (ps own left : List ℕ) (kids d p l : ℕ) : Type 0 where
  pub is-do : is_do ps l ≡ true
  pub below : d < l
  pub short : l < p
  pub owner : at own l ≡ d
  pub inside : (g : ℕ) → l < g → g ≤ p → at own g ≡ d → ⊥
  pub fronts : (q : ℕ) → l < q → q ≤ p → Within l p (row left kids q)

-- the point p before a boundary of d is d itself or a statement of d
pub record Plain (ps own : List ℕ) (d p : ℕ) : Type 0 where
  pub owner : d < p → at own p ≡ d
  pub no-do : d < p → is_do ps p ≡ false

-- the ENDDO of d is a boundary, and before a boundary lies a plain point or a loop directly inside d
pub record Ground (ps own left : List ℕ) (kids d e : ℕ) : Type 0 where
  pub owner : at own e ≡ d
  pub plain : (p : ℕ) → d ≤ p → Bound own d e (suc p) → is_end ps p ≡ false → Plain ps own d p
  pub child : (p : ℕ) → d ≤ p → Bound own d e (suc p) → is_end ps p ≡ true → Kid ps own left kids d p (at own p)

-- every entry is as before, but for those from low + 1 to high
abbrev pub Kept : List ℕ → List ℕ → ℕ → ℕ → Type 0
Kept xs xs' low high = (i : ℕ) → (low < i → high < i) → at xs' i ≡ at xs i
