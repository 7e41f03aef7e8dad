-- `list_range` meets its contract: the loops of the range are passed one after the other, and those apart from s and t
-- are put (`Passing`). The measure is how far the next one lies below 256.
use Prim.Native.Nat.{ℕ, ◌-◌}
use Rattle.laws.specs.Choice.{between}
use Rattle.laws.specs.Entries.{at}
use Rattle.paper_placements.specs.Words.{GAPS}
use Rattle.call_missing.specs.Covering.{is_apart}
use Rattle.call_missing.proofs.Passing.{Passing}
use Rattle.call_missing.proofs.list_range.Given as goal

abbrev pub invariant-loop-d : goal.invariant-loop-d
invariant-loop-d l =
    Passing l.loops.words (λ (i : ℕ). between l.lo i l.hi) (λ (i : ℕ). is_apart i (at l.ends i) l.s l.t) l.initial.all.words l.d
    l.all.words

abbrev pub decreases-loop-d : goal.decreases-loop-d
decreases-loop-d l = GAPS - l.d
