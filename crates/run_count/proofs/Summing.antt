-- Sums of a table at the gaps of a placement.
-- Main statements: `Summing`, what a turn keeps; `sum_start`, `sum_held`, `sum_free`, `sum_done`, `sum_fits`;
-- `calls_with`, `calls_told`.
use mathlib.Core.Path.{◌≡◌, refl}
use mathlib.Core.Bool.{Bool, true, false}
use mathlib.Core.List.{List, [], ◌∷◌}
use Prim.Native.Nat.{ℕ, suc, ◌+◌, ◌-◌, ◌≤◌, ◌<◌}
use native.Mathlib.Omega.{arith}
use lib.Dec.{ltb}
use lib.ListN.{length, get_or}
use Rattle.laws.specs.Choice.{pick}
use Rattle.paper_placements.specs.Placements.{are_gaps_from}
use Rattle.paper_placements.specs.GapLists.{with_gap}
use Rattle.paper_placements.specs.Words.{GAPS, holds, kept, gaps_of, gaps_in}
use Rattle.paper_placements.proofs.Rising.{Rises, rises}
use Rattle.run_barriers.specs.Calls.{times_at, calls_in}
use Rattle.run_count.specs.Times.{HasTimes, sum_in}

-- what is summed and what is left give the whole
pub record Summing (table ws : List ℕ) (g calls : ℕ) : Type 0 where
  pub within : g ≤ GAPS
  pub sum : calls + sum_in table (gaps_of (holds ws) (GAPS - g) g) ≡ sum_in table (gaps_in ws)

pub sum_start : (table ws : List ℕ) → Summing table ws 0 0
unfolding gaps_in
sum_start table ws = record { within = omega arith; sum = omega arith }

module _ {table ws : List ℕ} {g calls : ℕ} (s : Summing table ws g calls) where
  module _ (h : g < GAPS) where
    rest : (t : Bool) → holds ws g ≡ t →
        sum_in table (gaps_of (holds ws) (GAPS - g) g) ≡
        sum_in table (kept t g (gaps_of (holds ws) (GAPS - (g + 1)) (g + 1)))
    unfolding gaps_of
    rest t e =
        let z : GAPS - g ≡ suc (GAPS - (g + 1)) = omega arith in
        let y : g + 1 ≡ suc g = omega arith in
        rw (z, y, e)

    pub sum_held : holds ws g ≡ true → Summing table ws (g + 1) (calls + get_or table g 0)
    sum_held e = record { within = omega arith; sum = omega (arith, s.sum, rest true e) }

    pub sum_free : holds ws g ≡ false → Summing table ws (g + 1) calls
    sum_free e = record { within = omega arith; sum = omega (arith, s.sum, rest false e) }

    pub sum_fits : holds ws g ≡ true → calls + get_or table g 0 ≤ sum_in table (gaps_in ws)
    sum_fits e = omega (arith, s.sum, rest true e)

  pub sum_done : GAPS ≤ g → calls ≡ sum_in table (gaps_in ws)
  unfolding gaps_of
  sum_done h =
      let z : GAPS - g ≡ 0 = omega arith in
      let y : sum_in table (gaps_of (holds ws) (GAPS - g) g) ≡ 0 = rw z in
      omega (arith, s.sum)

-- a gap more adds its entry
pub calls_with
    : (table : List ℕ) (g : ℕ) (gs : List ℕ)
    → sum_in table (with_gap g gs) ≡ get_or table g 0 + sum_in table gs
calls_with table g [] = refl
calls_with table g (x ∷ xs) = go (ltb g x) (calls_with table g xs)
  where
    go
        : (t : Bool)
        → sum_in table (with_gap g xs) ≡ get_or table g 0 + sum_in table xs
        → sum_in table (pick t (g ∷ (x ∷ xs)) (x ∷ with_gap g xs)) ≡
        get_or table g 0 + (get_or table x 0 + sum_in table xs)
    go true r = refl
    go false r = omega arith

-- of a table that has how often each gap is passed, the sum is the placement's calls
module _ (ps ts table : List ℕ) (has : HasTimes ps ts table) where
  told_from
      : (last : ℕ) (gs : List ℕ)
      → are_gaps_from last (length ps) gs ≡ true
      → sum_in table gs ≡ calls_in ps ts gs
  unfolding calls_in
  told_from last [] h = refl
  told_from last (g ∷ gs) h = go (rises last (length ps) g gs h) (told_from g gs)
    where
      go
          : Rises last (length ps) g gs
          → (are_gaps_from g (length ps) gs ≡ true → sum_in table gs ≡ calls_in ps ts gs)
          → get_or table g 0 + sum_in table gs ≡ times_at ps ts g + calls_in ps ts gs
      go r rest = omega (arith, has g r.below, rest r.rest)

  pub calls_told : (gs : List ℕ) → are_gaps_from 0 (length ps) gs ≡ true → sum_in table gs ≡ calls_in ps ts gs
  calls_told gs h = told_from 0 gs h
