-- `reduce` meets its contract: the points at once (`IsRing`), then the dependences from the last to the first, each with
-- the ranks of its points (`DepsFrom`).
use Rattle.plan_paper.proofs.Rings.{IsRing}
use Rattle.plan_paper.proofs.Reducing.{DepsFrom}
use Rattle.plan_paper.proofs.reduce.Given as goal

abbrev pub invariant-loop-i : goal.invariant-loop-i
invariant-loop-i l = IsRing l.nest l.ring × DepsFrom l.nest l.ring.deps l.i
