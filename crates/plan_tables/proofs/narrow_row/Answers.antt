use native.Mathlib.Omega.{arith}
use Rattle.std.proofs.Math.Nat.{add-sub_cancel}
use Rattle.plan_tables.proofs.Narrowing.{narrow_start, narrow_on}
use Rattle.plan_tables.proofs.narrow_row.Goals as goal

pub loop-q-init : goal.loop-q-init
loop-q-init c = rw add-sub_cancel (narrow_start c.requires.d_le_e)

pub loop-q-preserved : goal.loop-q-preserved
loop-q-preserved c = narrow_on c.loop-q.invariant (omega arith) c.requires.e_in_bounds c.min-m.ensures
