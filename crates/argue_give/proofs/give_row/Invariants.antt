-- From the last gap of the row to its first, each with its claim or none (Rowing).
use Prim.Native.Nat.{◌-◌}
use Rattle.argue_give.proofs.Rowing.{Rowing}
use Rattle.argue_give.proofs.give_row.Given as goal

abbrev pub invariant-loop-b : goal.invariant-loop-b
invariant-loop-b l =
    let i = l.inside in
    let r = l.row in
    Rowing l.nest i.points.now i.own.now i.left.now i.kids r.base l.initial.need l.initial.sets l.initial.claims
    r.d r.e r.cost l.initial.out l.initial.s.at l.initial.s.many l.need l.sets l.claims l.out l.s.at l.s.many
    (l.b - 1)
