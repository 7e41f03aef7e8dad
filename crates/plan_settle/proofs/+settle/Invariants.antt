-- `settle` meets its contract; the height falls at each call. The invariant of its loop: the loops inside d that lie
-- before i are settled (`Settling`). At its end the loop's own row is made (`done`). Where nothing is to be cut the
-- rows stay as they are (`quiet_done`).
use Prim.Native.Nat.{◌-◌}
use Rattle.plan_settle.proofs.Lists.{Lent}
use Rattle.plan_settle.proofs.Turns.{Settling}
use Rattle.plan_settle.proofs.+settle.Given as goal

abbrev pub invariant-loop-i : goal.invariant-loop-i
invariant-loop-i l =
    let n = l.lines in
    Settling l.chart.points.now n.reach.now n.limit.now n.has.now l.initial.left l.initial.choice l.d
    l.left l.choice l.some l.i ×
    Lent l.initial.need l.initial.cs l.initial.fs l.initial.link l.need l.cs l.fs l.link

abbrev pub decreases-loop-i : goal.decreases-loop-i
decreases-loop-i l = l.e - l.i

abbrev pub decreases-settle : goal.decreases-settle
decreases-settle l = l.h
