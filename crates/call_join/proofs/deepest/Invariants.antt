-- `deepest` meets its contract: the most so far and what the points left reach are the most of all (`Deepest`).
use Rattle.call_join.proofs.Measuring.{Deepest}
use Rattle.call_join.proofs.deepest.Given as goal

abbrev pub invariant-loop-point : goal.invariant-loop-point
invariant-loop-point l = Deepest l.points l.most l.depth l.point-index
