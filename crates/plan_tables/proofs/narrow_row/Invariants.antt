-- `narrow_row` meets its contract: the places passed hold the least from there on (`Narrowing`).
use Prim.Native.Nat.{◌-◌}
use Rattle.plan_tables.proofs.Narrowing.{Narrowing}
use Rattle.plan_tables.proofs.narrow_row.Given as goal

abbrev pub invariant-loop-q : goal.invariant-loop-q
invariant-loop-q l = Narrowing l.initial.xs l.base l.d l.e l.m (l.q - 1) l.xs
