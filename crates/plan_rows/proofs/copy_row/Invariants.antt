-- `copy_row` meets its contract. The invariant: the entries before q are copied.
use Prim.Native.Nat.{◌-◌}
use Rattle.plan_rows.proofs.Copying.{Copying}
use Rattle.plan_rows.proofs.copy_row.Given as goal

abbrev pub invariant-loop-q : goal.invariant-loop-q
invariant-loop-q l = Copying l.from l.base l.d l.e l.initial.xs l.xs (l.q - 1)
