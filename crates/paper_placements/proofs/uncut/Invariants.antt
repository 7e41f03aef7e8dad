-- `uncut` meets its contract. The invariant: the dependences before i are cut (`Tried`).
use Rattle.paper_nests.specs.Stored.{nest_in}
use Rattle.paper_placements.specs.Words.{gaps_in}
use Rattle.paper_placements.proofs.Trying.{Tried}
use Rattle.paper_placements.proofs.uncut.Given as goal

abbrev pub invariant-loop-i : goal.invariant-loop-i
invariant-loop-i l = Tried (nest_in l.fn.nest).points (nest_in l.fn.nest).deps (gaps_in l.p.words) l.i
