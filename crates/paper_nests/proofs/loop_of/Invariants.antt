-- `loop_of` meets its contract. The invariant: back to i no level is below the gap's (`Back`).
use Rattle.paper_nests.proofs.Backward.{Back}
use Rattle.paper_nests.proofs.loop_of.Given as goal

abbrev pub invariant-loop-i : goal.invariant-loop-i
invariant-loop-i l = Back l.points l.g l.depth l.i
