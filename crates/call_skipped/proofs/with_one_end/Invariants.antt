-- `with_one_end` meets its contract: the loops are passed one after the other, and those with one of s and t alone are
-- put (`Passing`). The measure is how far the next one lies below 256.
use Prim.Native.Nat.{ℕ, ◌-◌}
use Rattle.laws.specs.Entries.{at}
use Rattle.paper_placements.specs.Words.{GAPS}
use Rattle.call_missing.proofs.Passing.{anywhere, Passing}
use Rattle.call_skipped.specs.OneEnd.{is_one_end}
use Rattle.call_skipped.proofs.with_one_end.Given as goal

abbrev pub invariant-loop-d : goal.invariant-loop-d
invariant-loop-d l =
    Passing l.loops.words anywhere (λ (i : ℕ). is_one_end i (at l.ends i) l.s l.t) l.initial.split.words l.d l.split.words

abbrev pub decreases-loop-d : goal.decreases-loop-d
decreases-loop-d l = GAPS - l.d
