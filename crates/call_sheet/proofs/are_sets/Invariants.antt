-- `are_sets` meets its contract. The invariant: what is left to check from the set's place on is what is to check of the
-- whole.
use Rattle.call_sheet.proofs.Checking.{Checked}
use Rattle.call_sheet.proofs.are_sets.Given as goal

abbrev pub invariant-loop-set : goal.invariant-loop-set
invariant-loop-set l = Checked l.processors l.waits l.p l.set-index
