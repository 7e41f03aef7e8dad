-- `chart_loops` meets its contract: each turn notes the loop of one more gap, and what the point there says
-- (`Charting`).
use Rattle.plan_tables.proofs.Charting.{Charting}
use Rattle.plan_tables.proofs.chart_loops.Given as goal

abbrev pub invariant-loop-i : goal.invariant-loop-i
invariant-loop-i l = Charting l.points l.i l.o l.h l.own l.ends l.heights
