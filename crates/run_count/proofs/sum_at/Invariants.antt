-- `sum_at` meets its contract. The invariant: what is summed and what is left give the whole (`Summing`).
use Rattle.run_count.proofs.Summing.{Summing}
use Rattle.run_count.proofs.sum_at.Given as goal

abbrev pub invariant-loop-g : goal.invariant-loop-g
invariant-loop-g l = Summing l.times l.p.words l.g l.calls
