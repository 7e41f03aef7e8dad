-- `is_covered` meets its contract: up to p every barrier is covered, and no loop apart from s and t reaches p
-- (`Covered`). The measure is how far p lies below 256.
use Prim.Native.Nat.{◌-◌}
use Rattle.paper_placements.specs.Words.{GAPS}
use Rattle.call_missing.proofs.Covering.{Covered}
use Rattle.call_missing.proofs.is_covered.Given as goal

abbrev pub invariant-loop-g : goal.invariant-loop-g
invariant-loop-g l = Covered l.ends l.loops.words l.key.words l.s l.t l.lo l.hi l.p l.g

abbrev pub decreases-loop-g : goal.decreases-loop-g
decreases-loop-g l = GAPS - l.p
