-- `with_range` meets its contract. The invariant: the gaps before g are put (`Ranged`).
use Rattle.paper_gaps.proofs.Ranges.{Ranged}
use Rattle.paper_gaps.proofs.with_range.Given as goal

abbrev pub invariant-loop-g : goal.invariant-loop-g
invariant-loop-g l = Ranged l.initial.q.words l.lo l.hi l.g l.q.words
