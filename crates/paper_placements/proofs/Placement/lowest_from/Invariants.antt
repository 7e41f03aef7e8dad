-- `Placement::lowest_from` meets its contract. The invariant: no gap is held from lo up to the words still to be looked
-- at (`Passed`).
use Prim.Native.Nat.{◌*◌}
use Rattle.paper_placements.proofs.Lowest.{Passed}
use Rattle.paper_placements.proofs.Placement.lowest_from.Given as goal

abbrev pub invariant-loop-i : goal.invariant-loop-i
invariant-loop-i l = Passed l.self.words l.lo (l.i * 64)
