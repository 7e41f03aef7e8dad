-- From the last dependence to the first, each takes its line's place from those after it.
use Rattle.paper_nests.specs.Stored.{nest_in}
use Rattle.argue_sets.proofs.Numbering.{Numbering}
use Rattle.argue_sets.proofs.number_lines.Given as goal

abbrev pub invariant-loop-i : goal.invariant-loop-i
invariant-loop-i l =
    Numbering l.chart.points.now (nest_in l.nest).deps l.chart.heights.now l.initial.sets l.i l.sets
