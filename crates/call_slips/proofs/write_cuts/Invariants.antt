-- `write_cuts` meets its contract: the lines of the dependences before number i are written, and the rest is left
-- (`CutLines`).
use Rattle.paper_nests.specs.Stored.{nest_in}
use Rattle.paper_placements.specs.Words.{gaps_in}
use Rattle.call_slips.proofs.CutLines.{CutLines}
use Rattle.call_slips.proofs.write_cuts.Given as goal

abbrev pub invariant-loop-e : goal.invariant-loop-e
invariant-loop-e l = CutLines (nest_in l.fn.nest) (gaps_in l.placement.words) l.initial.out l.out l.at l.e-index
