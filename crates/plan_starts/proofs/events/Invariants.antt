-- `events` meets its contract. The invariant: the events above the boundary p are there (`Eventing`).
use Rattle.plan_starts.proofs.Eventing.{Eventing}
use Rattle.plan_starts.proofs.events.Given as goal

abbrev pub invariant-loop-p : goal.invariant-loop-p
invariant-loop-p l =
    let i = l.inside in
    Eventing i.points.now i.own.now l.need i.left.now i.kids l.d l.e l.initial.cs l.initial.fs l.initial.link
    l.cs l.fs l.link l.a l.p

abbrev pub decreases-loop-p : goal.decreases-loop-p
decreases-loop-p l = l.p
