-- `weigh` meets its contract. The invariant: what the loops that ended before e tell (`Weighs`).
use Rattle.paper_weigh.proofs.ByTables.{Weighs}
use Rattle.paper_weigh.proofs.weigh.Given as goal

abbrev pub invariant-loop-e : goal.invariant-loop-e
invariant-loop-e l = Weighs l.points l.of_a l.of_b l.e l.latest l.first l.second l.deciding.words
