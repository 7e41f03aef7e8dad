-- `write_counts` meets its contract: the lines of the loops before point d are written, and the rest is left
-- (`Counting`).
use Rattle.paper_texts.proofs.Counting.{Counting}
use Rattle.paper_texts.proofs.write_counts.Given as goal

abbrev pub invariant-loop-d : goal.invariant-loop-d
invariant-loop-d l = Counting l.points l.counts l.initial.out l.out l.at l.d
