-- `listed_loops` meets its contract: the dependences are gone through from the last to the first, and the loops that
-- each has listed are added (`Gathered`).
use Rattle.paper_nests.specs.Stored.{nest_in}
use Rattle.call_missing.proofs.Gathering.{Gathered}
use Rattle.call_missing.proofs.listed_loops.Given as goal

abbrev pub invariant-loop-i : goal.invariant-loop-i
invariant-loop-i l =
    Gathered (nest_in l.nest).points (nest_in l.nest).deps l.ends l.key.words l.loops.words l.i l.listed.words
