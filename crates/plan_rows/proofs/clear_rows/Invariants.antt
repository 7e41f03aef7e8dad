-- `clear_rows` meets its contract. The invariant: the rows before r are cleared.
use Prim.Native.Nat.{◌-◌}
use Rattle.plan_rows.specs.Made.{RowsCleared}
use Rattle.plan_rows.proofs.clear_rows.Given as goal

abbrev pub invariant-loop-r : goal.invariant-loop-r
invariant-loop-r l = RowsCleared l.initial.xs l.xs (l.r - 1) l.e
