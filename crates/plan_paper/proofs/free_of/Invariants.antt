-- `free_of` meets its contract: from the last barred gap to the first, each gets 0 (`FreeFrom`).
use Rattle.plan_paper.proofs.Ranking.{FreeFrom}
use Rattle.plan_paper.proofs.free_of.Given as goal

abbrev pub invariant-loop-i : goal.invariant-loop-i
invariant-loop-i l = FreeFrom l.nest l.i l.free
