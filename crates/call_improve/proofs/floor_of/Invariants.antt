-- `floor_of` meets its contract. The invariant: the dependences before e are done (`Flooring`).
use Rattle.paper_nests.specs.Stored.{nest_in}
use Rattle.call_improve.proofs.FloorWalk.{Flooring}
use Rattle.call_improve.proofs.floor_of.Given as goal

abbrev pub invariant-loop-e : goal.invariant-loop-e
invariant-loop-e l = Flooring (nest_in l.fn.tables.nest.now) l.tables.times.now l.e-index l.floor l.taken.words
