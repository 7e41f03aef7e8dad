-- `last_need` meets its contract. The invariant: what is sought from p is still sought from the gap after `before`.
use mathlib.Core.Path.{◌≡◌}
use Rattle.laws.specs.Entries.{at}
use Rattle.plan_method.specs.Sweep.{seek}
use Rattle.plan_sweeps.proofs.last_need.Given as goal

abbrev pub invariant-loop-before : goal.invariant-loop-before
invariant-loop-before l = seek (at l.need) l.f l.low l.before ≡ seek (at l.need) l.f l.low l.p
