-- `deps_length` meets its contract: the sum so far and the text of the dependences left give the whole (`Summed`).
use Rattle.paper_nests.specs.Stored.{nest_in}
use Rattle.call_join.proofs.Measuring.{Summed}
use Rattle.call_join.proofs.deps_length.Given as goal

abbrev pub invariant-loop-e : goal.invariant-loop-e
invariant-loop-e l = Summed (nest_in l.fn.nest).deps l.length l.e-index
