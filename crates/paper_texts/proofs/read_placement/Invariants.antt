-- Each turn reads one line: it keeps the gaps so far, or is the text's refusal, or its end.
use Prim.Native.Nat.{◌-◌}
use lib.ListN.{length}
use Rattle.paper_placements.specs.Words.{gaps_in}
use Rattle.paper_texts.proofs.Placing.{Placing}
use Rattle.paper_texts.proofs.read_placement.Given as goal

abbrev pub invariant-loop-f : goal.invariant-loop-f
invariant-loop-f l = Placing l.points (gaps_in l.barred.words) l.text l.placement.words l.last l.at l.line

abbrev pub decreases-loop-f : goal.decreases-loop-f
decreases-loop-f l = length l.text - l.at
