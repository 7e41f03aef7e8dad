-- `is_quiet` meets its contract: the loops passed are no homes, and the first that is one ends the search.
use Rattle.plan_settle.specs.Settled.{Quiet}
use Rattle.plan_settle.proofs.is_quiet.Given as goal

abbrev pub invariant-loop-i : goal.invariant-loop-i
invariant-loop-i l = Quiet l.has l.d l.i
