-- `recounted` meets its contract. The invariant: from dependence i on the counts are those after the move, before i
-- those before it (`Moving`). The step makes the count of a dependence that has the gap (`move_on`); the others stay
-- (`move_past`).
use Rattle.paper_nests.specs.Stored.{nest_in}
use Rattle.paper_placements.specs.Words.{gaps_in}
use Rattle.desk_sitting.specs.Kept.{barriers}
use Rattle.desk_sitting.proofs.Moving.{Moving}
use Rattle.desk_sitting.proofs.recounted.Given as goal

abbrev pub invariant-loop-i : goal.invariant-loop-i
invariant-loop-i g l = Moving (nest_in l.nest) (barriers l.fn.s) (gaps_in l.placement.words) l.i l.counts l.uncut
