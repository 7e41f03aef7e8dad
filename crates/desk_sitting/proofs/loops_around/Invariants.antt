-- `loops_around` meets its contract. The invariant: back to i the table is filled (`Walked`).
use Rattle.desk_sitting.proofs.Around.{Walked}
use Rattle.desk_sitting.proofs.loops_around.Given as goal

abbrev pub invariant-loop-i : goal.invariant-loop-i
invariant-loop-i l = Walked l.points l.g l.depth l.i l.around
