-- `pass` meets its contract. The invariant: the times of the processors below p are stored.
use Rattle.call_sheet.specs.Says.{pass_time, Timed}
use Rattle.call_sheet.proofs.pass.Given as goal

abbrev pub invariant-loop-p : goal.invariant-loop-p
invariant-loop-p l = Timed (pass_time l.row l.sets l.earlier) l.initial.times l.times l.p
