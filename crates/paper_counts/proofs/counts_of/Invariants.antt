-- `counts_of` meets its contract: each turn counts the barrier of one more gap at the gap's loop (`Tallied`).
use Rattle.paper_counts.proofs.Tallied.{Tallied}
use Rattle.paper_counts.proofs.counts_of.Given as goal

abbrev pub invariant-loop-g : goal.invariant-loop-g
invariant-loop-g l = Tallied l.points l.p.words l.g l.counts
