-- Each turn is one lap more (Lapping).
use Prim.Native.Nat.{◌+◌, ◌-◌}
use Rattle.argue_laps.proofs.Lapping.{Lapping}
use Rattle.argue_laps.proofs.laps.Given as goal

abbrev pub invariant-loop : goal.invariant-loop
invariant-loop l =
    Lapping l.nest l.inside.points.now l.inside.own.now l.inside.left.now l.inside.kids l.initial.need l.initial.sets l.claims l.head.d l.head.e l.head.from l.head.upto l.head.few l.initial.out l.start l.need l.sets l.out l.f l.at (l.head.e + 2 - l.counter)
