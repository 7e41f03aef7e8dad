-- `ends_of` meets its contract. The invariant: the entries of the points from i on are there (`Filled`).
use Rattle.paper_nests.proofs.Ends.{Filled}
use Rattle.paper_nests.proofs.ends_of.Given as goal

abbrev pub invariant-loop-i : goal.invariant-loop-i
invariant-loop-i l = Filled l.points l.ends l.end l.i
