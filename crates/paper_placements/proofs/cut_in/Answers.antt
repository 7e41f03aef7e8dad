-- `cut_in` meets its contract: an independent dependence has one interval of gaps, a carried one two, of which the
-- lower gap counts.
use mathlib.Core.Logic.{inl, inr, ⊎_elim}
use Prim.Native.Nat.{◌≤◌, ◌<◌}
use native.Mathlib.Omega.{arith}
use Rattle.laws.proofs.Tests.{le_or}
use Rattle.paper_placements.proofs.CutTest.{answer, cut_Line, cut_back}
use Rattle.paper_placements.proofs.cut_in.Goals as goal

pub returns-then-e-eq-INDEPENDENT : goal.returns-then-e-eq-INDEPENDENT
returns-then-e-eq-INDEPENDENT c =
    λ ps h.
    answer _ _ _ _ _ c.found.ensures (cut_Line _ _ _ _ c.if-e-eq-INDEPENDENT.true c.lowest_in.ensures)

pub returns : goal.returns
returns c =
    λ ps h.
    let a = c.lowest_in-2.result in
    let b = c.lowest_in-3.result in
    answer _ _ _ _ _ c.found-2.ensures
    (cut_back _ _ _ _ _ _ _ c.if-e-eq-INDEPENDENT.false (h c.if-e-eq-INDEPENDENT.false) c.lowest_in-2.ensures c.lowest_in-3.ensures
    (⊎_elim (λ (l : b ≤ a). inr (l, omega arith)) (λ (l : a < b). inl (l, omega arith)) (le_or b a)))
