-- `no_times` meets its contract: every entry is 0.
use Rattle.laws.proofs.Copies.{copies, copies_at}
use Rattle.argue_judge.proofs.no_times.Goals as goal

pub returns-clause-by_index : goal.returns-clause-by_index
unfolding copies
returns-clause-by_index _ = copies_at 256 0
