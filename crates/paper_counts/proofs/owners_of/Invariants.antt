-- `owners_of` meets its contract: each turn notes the loop of one more gap (`Walked`).
use Rattle.paper_counts.proofs.Walk.{Walked}
use Rattle.paper_counts.proofs.owners_of.Given as goal

abbrev pub invariant-loop-g : goal.invariant-loop-g
invariant-loop-g l = Walked l.points l.g l.around l.owners
