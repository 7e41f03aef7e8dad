-- `are_turns` meets its contract: the turns so far are within their bounds (`Tested`).
use Rattle.run_count.proofs.Fitting.{Tested}
use Rattle.run_count.proofs.are_turns.Given as goal

abbrev pub invariant-loop-t : goal.invariant-loop-t
invariant-loop-t l = Tested l.first l.inner l.turns l.low l.t-index
