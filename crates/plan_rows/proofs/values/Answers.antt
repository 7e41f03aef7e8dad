use mathlib.Core.Path.{◌≡◌}
use Prim.Native.Nat.{◌+◌, ◌-◌, ◌<◌}
use native.Mathlib.Omega.{arith}
use Rattle.std.proofs.Math.Nat.{add-sub_cancel}
use Rattle.plan_rows.proofs.Valuing.{early_low, early_high}
use Rattle.plan_rows.proofs.Valuing.{late_more, late_all}
use Rattle.plan_rows.proofs.values.Goals as goal
use Rattle.plan_rows.proofs.values.Goals.{then-f-limit, else-f-limit}

pub loop-q-preserved : goal.loop-q-preserved
loop-q-preserved c =
    let z : c.loop-q.q - 1 + 1 ≡ c.loop-q.q = omega arith in
    let early : c.loop-q.q - 1 + 1 < c.args.first = omega (arith, c.max-late.ensures) in
    rw add-sub_cancel (elim c.if-f-limit.branch [
      | then-f-limit w ↦ rw (w.cs-is, w.fs-is, w.m-is)
          (rw z at (early_low c.requires c.loop-q.invariant early (rw z w.if-f-limit.true)))
      | else-f-limit w ↦ rw (w.cs-is, w.fs-is, w.m-is)
          (rw z at (early_high c.requires c.loop-q.invariant early (rw z (omega (arith, w.if-f-limit.false)))))
    ])

pub loop-q-2-preserved : goal.loop-q-2-preserved
loop-q-2-preserved c =
    let z : c.loop-q-2.q - 1 + 1 ≡ c.loop-q-2.q = omega arith in
    let v = c.closed-v.result in
    let more = late_more c.loop-q-2.invariant {c = v.c} {f = v.f} {m' = c.min-m.result} (omega arith)
    (rw z c.closed-v.ensures) (omega (arith, c.min-m.ensures)) in
    rw add-sub_cancel (rw z at more)

pub returns-clause-closed_says : goal.returns-clause-closed_says
returns-clause-closed_says c =
    let y : c.loop-q.q ≡ c.max-late.result = omega arith in
    (late_all c.loop-q-2.invariant c.requires (rw y at c.loop-q.invariant.valuing) (omega arith)).0
