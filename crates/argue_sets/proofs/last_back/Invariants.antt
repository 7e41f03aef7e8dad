-- From the last dependence to the first, the last that goes back is known of those passed.
use Rattle.paper_nests.specs.Stored.{nest_in}
use Rattle.argue_sets.proofs.Numbering.{Backing}
use Rattle.argue_sets.proofs.last_back.Given as goal

abbrev pub invariant-loop-i : goal.invariant-loop-i
invariant-loop-i l = Backing (nest_in l.nest).points (nest_in l.nest).deps l.d l.f l.i l.last.at l.last.num
