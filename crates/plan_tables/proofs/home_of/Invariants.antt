-- `home_of` meets its contract: no loop that reaches the target is passed (`Climbing`). The measure is the loop itself.
use Rattle.plan_tables.proofs.Climbing.{Climbing}
use Rattle.plan_tables.proofs.home_of.Given as goal

abbrev pub invariant-loop-l : goal.invariant-loop-l
invariant-loop-l l = Climbing l.chart.points.now l.s l.t l.l

abbrev pub decreases-loop-l : goal.decreases-loop-l
decreases-loop-l l = l.l
