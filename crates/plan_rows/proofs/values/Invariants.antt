-- `values` meets its contract. The invariant of both loops: the values before q stand in place of what is made from
-- each start on, and the rest is untouched (`Valuing`). In the first the least is that of `first` or one more
-- (`EarlyValuing`); in the second no start with a line in the loop lies after q (`LateValuing`).
use Prim.Native.Nat.{◌-◌}
use Rattle.plan_rows.proofs.Valuing.{EarlyValuing}
use Rattle.plan_rows.proofs.Valuing.{LateValuing}
use Rattle.plan_rows.proofs.values.Given as goal

abbrev pub invariant-loop-q : goal.invariant-loop-q
invariant-loop-q l = EarlyValuing l.limit l.base l.d l.e l.first l.initial.cs l.initial.fs l.cs l.fs l.m (l.q - 1)

abbrev pub invariant-loop-q-2 : goal.invariant-loop-q-2
invariant-loop-q-2 l =
    LateValuing l.limit l.base l.d l.e l.first l.initial.cs l.initial.fs l.initial.m (l.late - 1) l.cs l.fs l.m (l.q - 1)
