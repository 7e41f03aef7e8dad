-- The scan for the ENDDO of a loop: from the DO on, with the depth, to the first ENDDO at depth 1; and the points among
-- which no DO is.
-- Main statements: `deeper_grows`; `Scanned`, what a turn keeps; `none_is_do`.
use mathlib.Core.Path.{◌≡◌, refl, ap}
use mathlib.Core.Bool.{Bool, true, false, ◌&&◌, not}
use mathlib.Core.List.{List, [], ◌∷◌}
use Prim.Native.Nat.{ℕ, suc, ◌+◌, ◌-◌, ◌≤◌}
use native.Mathlib.Omega.{arith}
use lib.Dec.{eqb}
use lib.ListN.{drop}
use Rattle.std.specs.List.{list_all}
use Rattle.laws.specs.Choice.{pick}
use Rattle.paper_nests.specs.Kinds.{DO}
use Rattle.paper_nests.specs.Loops.{deeper, end_from, end_of}
use Rattle.paper_nests.specs.Ring.{no_do}

-- one more point makes the depth at most one more
pub deeper_grows : (d p : ℕ) → deeper d p ≤ d + 1
deeper_grows d p = go (eqb p 1) (eqb p 2)
  where
    go : (a b : Bool) → pick a (suc d) (pick b (d - 1) d) ≤ d + 1
    go true b = omega arith
    go false true = omega arith
    go false false = omega arith

-- the scan for the ENDDO of d, at the point i and the depth there
pub record Scanned (ps : List ℕ) (d depth i : ℕ) : Type 0 where
  pub rest : end_from i depth (drop i ps) ≡ end_of ps d
  pub low : depth + d ≤ i

-- that no DO is among some points, as a test of each of them
pub none_is_do : (ps : List ℕ) → list_all (λ p. not (eqb p DO)) ps ≡ no_do ps
none_is_do [] = refl
none_is_do (p ∷ ps) = ap (λ (b : Bool). not (eqb p DO) && b) (none_is_do ps)
