use native.Mathlib.Omega.{arith}
use Rattle.std.proofs.Math.Nat.{add-sub_cancel}
use Rattle.plan_rows.proofs.Choosing.{choosing_none, choosing_more, choosing_all}
use Rattle.plan_rows.proofs.choose.Goals as goal

pub loop-q-init : goal.loop-q-init
loop-q-init c = rw add-sub_cancel (choosing_none c.requires.d_lt_e)

pub loop-q-preserved : goal.loop-q-preserved
loop-q-preserved c =
    choosing_more c.loop-q.invariant (omega arith) (omega arith) (omega arith) c.better-best.ensures

pub returns-clause-choose_says : goal.returns-clause-choose_says
returns-clause-choose_says c = (choosing_all c.loop-q.invariant (omega arith)).chosen
