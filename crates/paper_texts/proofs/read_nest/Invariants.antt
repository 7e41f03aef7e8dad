-- An empty text is the blank paper; else each turn reads one line: it keeps the nest so far, or is the text's refusal,
-- or its end.
use Prim.Native.Nat.{◌-◌}
use lib.ListN.{length}
use Rattle.paper_texts.proofs.Loading.{Loading}
use Rattle.paper_texts.proofs.read_nest.Given as goal

abbrev pub invariant-loop-nest : goal.invariant-loop-nest
invariant-loop-nest l = Loading l.text l.nest l.ends l.single l.depth l.at l.line

abbrev pub decreases-loop-nest : goal.decreases-loop-nest
decreases-loop-nest l = length l.text - l.at
