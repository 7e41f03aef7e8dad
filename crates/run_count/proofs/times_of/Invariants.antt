-- `times_of` meets its contract: up to gap i the table is filled (`Timed`).
use Rattle.run_count.proofs.Timing.{Timed}
use Rattle.run_count.proofs.times_of.Given as goal

abbrev pub invariant-loop-i : goal.invariant-loop-i
invariant-loop-i l = Timed l.points l.turns l.times l.next l.i
