-- `choose` meets its contract. The invariant: the suffixes from q on are chosen from (`Choosing`).
use Prim.Native.Nat.{◌-◌}
use Rattle.plan_rows.proofs.Choosing.{Choosing}
use Rattle.plan_rows.proofs.choose.Given as goal

abbrev pub invariant-loop-q : goal.invariant-loop-q
invariant-loop-q l =
    Choosing l.cs l.fs l.m l.initial.left l.initial.choice l.base l.d l.e l.left l.choice l.best.f l.best.at (l.q - 1)
