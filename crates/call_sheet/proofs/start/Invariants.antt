-- `start` meets its contract. The invariant: the times of the processors below p are stored.
use Rattle.call_sheet.specs.Says.{time_at, Timed}
use Rattle.call_sheet.proofs.start.Given as goal

abbrev pub invariant-loop-p : goal.invariant-loop-p
invariant-loop-p l = Timed (time_at l.row) l.initial.times l.times l.p
