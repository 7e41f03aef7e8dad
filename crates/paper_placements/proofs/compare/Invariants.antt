-- `compare` meets its contract. The invariant: the loops that end before e have the same counts (`Compares`).
use Rattle.paper_placements.proofs.Comparing.{Compares}
use Rattle.paper_placements.proofs.compare.Given as goal

abbrev pub invariant-loop-e : goal.invariant-loop-e
invariant-loop-e l = Compares l.points l.key.words l.other.words l.e
