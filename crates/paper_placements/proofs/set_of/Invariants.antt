-- `set_of` meets its contract: each number in turn is put into the set (`SetSoFar`).
use Rattle.paper_placements.proofs.Sets.{SetSoFar}
use Rattle.paper_placements.proofs.set_of.Given as goal

abbrev pub invariant-loop-g : goal.invariant-loop-g
invariant-loop-g l = SetSoFar l.all l.g-index l.set.words
