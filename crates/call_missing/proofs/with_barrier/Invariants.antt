-- `with_barrier` meets its contract: the flagged loops are passed one after the other, and those with a barrier inside
-- are put (`Passing`). The measure is how far the next one lies below 256.
use Prim.Native.Nat.{◌-◌}
use Rattle.paper_placements.specs.Words.{GAPS}
use Rattle.call_missing.specs.Covering.{has_barrier}
use Rattle.call_missing.proofs.Passing.{anywhere, Passing}
use Rattle.call_missing.proofs.with_barrier.Given as goal

abbrev pub invariant-loop-d : goal.invariant-loop-d
invariant-loop-d l =
    Passing l.flagged.words anywhere (has_barrier l.ends l.key.words) l.initial.loops.words l.d l.loops.words

abbrev pub decreases-loop-d : goal.decreases-loop-d
decreases-loop-d l = GAPS - l.d
