-- `current_of` meets its contract. The invariant: from i on the dependences are chained (`Chaining`).
use Rattle.paper_nests.specs.Stored.{nest_in}
use Rattle.paper_placements.specs.Words.{gaps_in}
use Rattle.call_improve.proofs.Chains.{Chaining}
use Rattle.call_improve.proofs.current_of.Given as goal

abbrev pub invariant-loop-i : goal.invariant-loop-i
invariant-loop-i l = Chaining (nest_in l.tables.nest.now) (gaps_in l.p.words) l.i l.first l.next
