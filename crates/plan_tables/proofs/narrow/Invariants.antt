-- `narrow` meets its contract: the rows of the loops passed hold limits, the others what goes back (`LimitingAll`).
use Rattle.plan_tables.proofs.Limits.{LimitingAll}
use Rattle.plan_tables.proofs.narrow.Given as goal

abbrev pub invariant-loop-d : goal.invariant-loop-d
invariant-loop-d l = LimitingAll l.chart.points.now l.chart.heights.now l.initial.limit l.d l.limit
