use native.Mathlib.Omega.{arith}
use Rattle.laws.specs.Entries.{at}
use Rattle.plan_sweeps.proofs.Steps.{seek_high}
use Rattle.plan_starts.proofs.Eventing.{eventing_none, eventing_plain, eventing_child, child_room}
use Rattle.plan_starts.proofs.events.Goals as goal

pub loop-p-init : goal.loop-p-init
loop-p-init c = eventing_none c.requires.starts_room c.requires.ground c.requires.first_value

pub events_child-a-requires : goal.events_child-a-requires
events_child-a-requires c =
    child_room c.requires.starts_room c.requires.ground c.loop-p.invariant
    (omega (arith, c.loop-p-test)) c.if-inside-before-eq-ENDDO.true

pub loop-p-preserved-then-inside-before-eq-ENDDO : goal.loop-p-preserved-then-inside-before-eq-ENDDO
loop-p-preserved-then-inside-before-eq-ENDDO c =
    eventing_child c.requires.starts_room c.requires.ground c.loop-p.invariant
    (omega (arith, c.loop-p-test)) c.if-inside-before-eq-ENDDO.true
    c.events_child-a.auto.cs c.events_child-a.auto.fs c.events_child-a.auto.link c.events_child-a.ensures

pub overflow_cast-link : goal.overflow_cast-link
overflow_cast-link c =
    let i = c.args in
    let low = seek_high (at i.need.now) c.loop-p.p i.d c.min.result in
    omega (arith, c.last_need-a.ensures, c.min.ensures, c.loop-p.invariant.bound.high, c.requires.starts_room.short)

pub loop-p-preserved : goal.loop-p-preserved
loop-p-preserved c =
    eventing_plain c.requires.starts_room c.requires.ground c.loop-p.invariant
    (omega (arith, c.loop-p-test)) c.if-inside-before-eq-ENDDO.false (rw c.min.ensures at c.last_need-a.ensures)
