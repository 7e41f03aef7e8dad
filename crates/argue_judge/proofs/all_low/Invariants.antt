-- `all_low` meets its contract: the points below decide (`LowFrom`).
use lib.ListN.{length}
use Rattle.argue_judge.proofs.Ends.{LowFrom}
use Rattle.argue_judge.proofs.all_low.Given as goal

abbrev pub invariant-loop-d : goal.invariant-loop-d
invariant-loop-d l = LowFrom l.points l.counts l.low.words (length l.points) l.d
