-- `latest_starts` meets its contract: one dependence after the other is entered (`Collecting`).
use Rattle.call_textbook.proofs.Tables.{Collecting}
use Rattle.call_textbook.proofs.latest_starts.Given as goal

abbrev pub invariant-loop-e : goal.invariant-loop-e
invariant-loop-e l = Collecting l.free l.m l.fn.nest.many l.fn.nest.deps l.e-index l.latest
