-- `collect` meets its contract: from the last dependence to the first, each is entered in front of those after it
-- (`Collecting`).
use Rattle.paper_nests.specs.Stored.{nest_in}
use Rattle.plan_tables.proofs.Collecting.{Collecting}
use Rattle.plan_tables.proofs.collect.Given as goal

abbrev pub invariant-loop-i : goal.invariant-loop-i
invariant-loop-i l =
    Collecting l.chart.points.now (nest_in l.nest).deps l.chart.heights.now l.initial.reach l.initial.back l.initial.has
    l.i l.reach l.back l.has
