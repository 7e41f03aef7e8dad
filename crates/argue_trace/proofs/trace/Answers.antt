use mathlib.Core.Path.{◌≡◌}
use Prim.Native.Nat.{◌+◌, ◌-◌}
use native.Mathlib.Omega.{arith}
use Rattle.laws.specs.Entries.{at}
use Rattle.plan_method.proofs.Walk.{seek_is}
use Rattle.argue_trace.proofs.Turns.{begin, on_put, on_skip, on_child, done}
use Rattle.argue_trace.proofs.trace.Goals as goal

pub loop-p-init : goal.loop-p-init
loop-p-init _ = begin

pub put_child-at-requires : goal.put_child-at-requires
put_child-at-requires c =
    let p = c.loop-p.invariant in
    let u = c.loop-p-test.true in
    let k = c.last_need-b.ensures in
    let z : c.loop-p.p - 1 + 1 ≡ c.loop-p.p = omega (arith, u) in record { l_le_p = (c.requires.sweep_room.own_low (c.loop-p.p - 1), omega (arith, p.high, c.requires.e_bound.0)); b_bound = (rw (z, k) (seek_is (at c.args.need.now) c.loop-p.f (at c.args.inside.now.own.now (c.loop-p.p - 1)) c.loop-p.p).high, omega (arith, p.high, c.requires.sweep_room.left_room, u)); sets_room = record { room = omega (arith, p.high, c.requires.sets_room.room, u); small = c.requires.sets_room.small }; few_claims = c.requires.few_claims; start_bound = omega (arith, p.near, p.high, c.requires.e_bound.1) }

pub loop-p-preserved-then-inside-before-eq-ENDDO : goal.loop-p-preserved-then-inside-before-eq-ENDDO
loop-p-preserved-then-inside-before-eq-ENDDO c =
    on_child c.loop-p.invariant c.loop-p-test.true c.if-inside-before-eq-ENDDO.true (c.requires.sweep_room.own_low (c.loop-p.p - 1))
    c.last_need-b.ensures c.step_child-s.ensures c.put_child-at.ensures.added c.put_child-at.ensures.upper_bound

pub loop-p-preserved-then-need-p : goal.loop-p-preserved-then-need-p
loop-p-preserved-then-need-p c =
    on_put c.loop-p.invariant c.loop-p-test.true c.if-inside-before-eq-ENDDO.false c.if-need-p.true c.put_step-at.ensures.added c.put_step-at.ensures.upper_bound

pub loop-p-preserved : goal.loop-p-preserved
loop-p-preserved c = on_skip c.loop-p.invariant c.loop-p-test.true c.if-inside-before-eq-ENDDO.false c.if-need-p.false

pub returns : goal.returns
returns c = done c.loop-p.invariant c.loop-p-test.false
