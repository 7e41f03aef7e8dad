-- From the last point to the first, each loop gives its claims (Looping).
use Rattle.argue_loops.proofs.Looping.{Looping}
use Rattle.argue_loops.proofs.give_loops.Given as goal

abbrev pub invariant-loop-d : goal.invariant-loop-d
invariant-loop-d l =
    let c = l.chart in
    let t = l.tables in
    Looping l.nest c.points.now c.own.now t.left.now t.reach.now l.numbers t.costs.now l.initial.claims
    l.initial.out l.need l.sets l.claims l.out l.s.at l.s.many l.d
